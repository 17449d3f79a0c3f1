-- The calendar of the program: TARGET's closing days.
use Rattle.std.specs.Prelude.{ℕ, Bool, true, false, List, [], ◌∷◌, pos, negsuc}
use Rattle.calendars.specs.declared.weekly.Weekly.{Weekly}
use Rattle.calendars.specs.declared.rule.Rule.{Rule}
use Rattle.calendars.specs.declared.joint.Joint.{Joint}
use Rattle.calendars.specs.declared.month_day.MonthDay.{MonthDay}
use Rattle.calendars.specs.declared.easter_offset.EasterOffset.{EasterOffset}
use Rattle.calendars.specs.Codes.{over}
use Rattle.calendars.specs.Weeks.{weekly_code}
use Rattle.calendars.specs.Rules.{Held, held, rule_code}
use Rattle.calendars.specs.Entries.{month_day_closes, offset_closes}

-- Saturday and Sunday
abbrev pub target_weekend : List Bool
target_weekend = false ∷ false ∷ false ∷ false ∷ false ∷ true ∷ true ∷ []

-- 1 January, 1 May, 25 and 26 December, by layer 2
abbrev pub target_yearly : Held MonthDay
target_yearly =
    record {
      entries =
          record { month = 1; day = 1 } ∷ record { month = 5; day = 1 } ∷ record { month = 12; day = 25 } ∷ record { month = 12; day = 26 } ∷ [];
      layer = 2;
    }

-- Good Friday and Easter Monday, by layer 3
abbrev pub target_easter : Held EasterOffset
target_easter = record { entries = record { days = negsuc 1 } ∷ record { days = pos 1 } ∷ []; layer = 3 }

-- weekly codes, then those of a yearly and of an Easter rule
abbrev pub layered : (ℕ → ℕ) → Held MonthDay → Held EasterOffset → ℕ → ℕ
layered week yearly easter =
    over week (over (rule_code month_day_closes yearly.entries yearly.layer) (rule_code offset_closes easter.entries easter.layer))

-- weekends by layer 1, then the yearly dates, then those by Easter
abbrev pub target_code : ℕ → ℕ
target_code = layered (weekly_code target_weekend 1) target_yearly target_easter

-- the codes of a calendar that is put together so
abbrev pub target_codes : Joint Weekly (Joint (Rule MonthDay 16) (Rule EasterOffset 8)) → ℕ → ℕ
target_codes t =
    layered (weekly_code t.left.closed t.left.layer.number) (held t.right.left) (held t.right.right)

-- The four notices on the fresh sheet: what the calendar refuses or grants, whom it touches, and which payments alter.
use Rattle.std.specs.Prelude.{ℕ, ◌+◌, cond, List, [], ◌∷◌, ◌++◌, map, length, drop, Option, Some, Ok, Err, Result, nat_le}
use Rattle.faults.specs.Refusals.{Refusal, naming}
use Rattle.amendments.specs.Meanings.{Meaning}
use Rattle.generation.specs.Schedules.{Scheduled}
use Rattle.generation.specs.Retrying.{counted_in}
use Rattle.notices.specs.declared.notice.Notice.{Notice}
use Rattle.notices.specs.Notices.{days_of, calendar_after, calendar_answer}
use Rattle.changes.specs.Changes.{Altered, changes_in}
use Rattle.sheet.specs.declared.call.Counts.{Counts}
use Rattle.sheet.specs.FreshSheets.{Fresh, schedules}

-- how many rolls of all schedules stand on one of the days
unfoldable pub counted : (ℕ → List ℕ) → List ℕ → List Scheduled → ℕ
counted tries days [] = 0
counted tries days (x ∷ xs) = counted_in tries days x + counted tries days xs

-- the changes of all bonds, by bond number, under the codes before and after
unfoldable pub changes : (ℕ → ℕ) → (ℕ → ℕ) → List Scheduled → List Scheduled → List Altered
changes before after [] ys = []
changes before after (x ∷ xs) [] = []
changes before after (x ∷ xs) (y ∷ ys) = changes_in before after x y ++ changes before after xs ys

-- what a notice leaves: the sheet, the counts of rolls and of changes or the refusal, and the list that was brought
pub record Noticed : Type 0 where
  pub sheet : Fresh
  pub answer : Result Counts Refusal
  pub list : List (Option Altered)

-- a refused notice alters nothing
abbrev pub not_noticed : Fresh → List (Option Altered) → Refusal → Noticed
not_noticed s list e = record { sheet = s; answer = Err e; list = list }

-- 30 if the list has fewer places than there are changes; else they stand at its front, and the places beyond are untouched
abbrev pub listed : Fresh → Meaning → List (Option Altered) → ℕ → List Altered → Noticed
listed s after list rolls found =
    cond (nat_le (length found) (length list))
    (record {
      sheet = record { bonds = s.bonds; calendar = after };
      answer = Ok (record { rolls = rolls; changes = length found });
      list = map Some found ++ drop (length found) list;
    }) (not_noticed s list (naming 30 []))

-- with the schedules before and after: 20 or 21 of the first roll that fails after it
abbrev pub regenerated : (ℕ → List ℕ) → Fresh → Notice → List (Option Altered) → Result (List Scheduled) Refusal → Result (List Scheduled) Refusal → Noticed
regenerated tries s notice list (Err e) new = not_noticed s list e
regenerated tries s notice list (Ok old) (Err e) = not_noticed s list e
regenerated tries s notice list (Ok old) (Ok new) =
    let after = calendar_after s.calendar notice in
    listed s after list (counted tries (days_of notice) old) (changes s.calendar.codes after.codes old new)

-- what the calendar refuses comes first
abbrev pub noticed_by : (ℕ → List ℕ) → Fresh → Notice → List (Option Altered) → Result (Unit {0}) Refusal → Noticed
noticed_by tries s notice list (Err e) = not_noticed s list e
noticed_by tries s notice list (Ok _) =
    regenerated tries s notice list (schedules tries s.calendar s.bonds) (schedules tries (calendar_after s.calendar notice) s.bonds)

-- a notice: what the calendar refuses, then the bonds, then the list
abbrev pub noticed : (ℕ → List ℕ) → Fresh → Notice → List (Option Altered) → Noticed
noticed tries s notice list = noticed_by tries s notice list (calendar_answer s.calendar notice)

-- Rolls tried anew after some days of the calendar have changed.
use Rattle.std.specs.Prelude.{◌≡◌, ℕ, ◌+◌, ◌-◌, Bool, false, cond, ◌&&◌, List, [], ◌∷◌, length, Ok, Result, nat_eq, nat_le, slice_index}
use Rattle.faults.specs.Refusals.{Refusal}
use Rattle.calendars.specs.Rules.{any}
use Rattle.conventions.specs.Turns.{upward}
use Rattle.bonds.specs.Rolls.{rolls}
use Rattle.generation.specs.Rolls.{RollDays, Span, stretched, footing}
use Rattle.generation.specs.BondRolls.{bond_roll}
use Rattle.generation.specs.Granting.{each_granted}
use Rattle.generation.specs.Schedules.{Scheduled, roll_in, scheduled, schedule_answer}

-- a day lies in a span
abbrev pub inside : Span → ℕ → Bool
inside span d = nat_le span.low d && nat_le d span.high

-- a span holds one of the days
abbrev pub holds_one : Span → List ℕ → Bool
holds_one span days = any (inside span) days

-- from 60 days before a roll's adjusted day, or from its fixing if that is earlier, to 60 days after: so far a footing can go
abbrev pub widest : RollDays → Span
widest r = record { low = stretched (r.adjusted - 60) r.fixing; high = r.adjusted + 60 }

-- roll i of a schedule counts: its footing holds one of the days
unfoldable pub counts : (ℕ → List ℕ) → List ℕ → Scheduled → ℕ → Bool
counts tries days x i = holds_one (footing (slice_index (rolls x.terms) i) (tries (slice_index (rolls x.terms) i)) (roll_in x i)) days

-- how many of some numbers pass a test
unfoldable pub how_many : (ℕ → Bool) → List ℕ → ℕ
how_many test [] = 0
how_many test (n ∷ ns) = cond (test n) 1 0 + how_many test ns

-- how many rolls of a schedule count
abbrev pub counted_in : (ℕ → List ℕ) → List ℕ → Scheduled → ℕ
counted_in tries days x = how_many (counts tries days x) (upward (length x.days) 0)

-- roll i anew if it counts, else as it was
abbrev pub retried_roll : (ℕ → Bool) → (ℕ → List ℕ) → List ℕ → Scheduled → ℕ → Result RollDays Refusal
retried_roll good tries days x i = cond (counts tries days x i) (bond_roll good tries x.terms i) (Ok (roll_in x i))

-- the whole schedule so
abbrev pub retried : (ℕ → Bool) → (ℕ → List ℕ) → List ℕ → Scheduled → Result Scheduled Refusal
retried good tries days x = scheduled x.terms (each_granted (retried_roll good tries days x) (upward (length x.days) 0))

-- a day is one of some days
abbrev pub among : ℕ → List ℕ → Bool
among d days = any (nat_eq d) days

-- two sets of good days are the same but for some days
abbrev pub SameButFor : List ℕ → (ℕ → Bool) → (ℕ → Bool) → Type 0
SameButFor days good other = (d : ℕ) → among d days ≡ false → good d ≡ other d

-- a schedule of good days that have changed on these days alone: trying anew what counts is generating it afresh
abbrev pub RetrySuffices : (ℕ → Bool) → (ℕ → List ℕ) → List ℕ → Scheduled → Type 0
RetrySuffices good tries days x =
    (before : ℕ → Bool) → SameButFor days before good → schedule_answer before tries x.terms ≡ Ok x
    → retried good tries days x ≡ schedule_answer good tries x.terms

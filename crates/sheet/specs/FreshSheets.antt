-- The fresh sheet: the live bonds and what the calendar means, from which everything is worked out anew after each call.
use Rattle.std.specs.Prelude.{ℕ, ◌+◌, Bool, List, [], ◌∷◌, length, Err, Result}
use Rattle.faults.specs.Refusals.{Refusal}
use Rattle.calendars.specs.Codes.{good}
use Rattle.amendments.specs.Meanings.{Meaning}
use Rattle.bonds.specs.declared.terms.Terms.{Terms}
use Rattle.bonds.specs.Rolls.{rolls}
use Rattle.generation.specs.Granting.{each_granted}
use Rattle.generation.specs.Schedules.{Scheduled, schedule_answer}

-- the live bonds by rising number, and the calendar
pub record Fresh : Type 0 where
  pub bonds : List Terms
  pub calendar : Meaning

-- what a call leaves: the sheet, and the answer or refusal
pub record After (A : Type 0) : Type 0 where
  pub sheet : Fresh
  pub answer : Result A Refusal

-- a refused call alters nothing
abbrev pub refused : {A : Type 0} → Fresh → Refusal → After A
refused s e = record { sheet = s; answer = Err e }

-- a sheet without bonds
abbrev pub opened : Meaning → Fresh
opened m = record { bonds = []; calendar = m }

-- bonds are kept by number
abbrev pub number : Terms → ℕ
number t = t.number

-- the good days of a calendar
abbrev pub good_days : Meaning → ℕ → Bool
good_days m d = good (m.codes d)

-- the rolls of all bonds together
unfoldable pub roll_total : List Terms → ℕ
roll_total [] = 0
roll_total (t ∷ ts) = length (rolls t) + roll_total ts

-- the schedules of bonds, generated afresh, or the refusal of the first failing roll: bonds by number, rolls from 0
abbrev pub schedules : (ℕ → List ℕ) → Meaning → List Terms → Result (List Scheduled) Refusal
schedules tries m bonds = each_granted (schedule_answer (good_days m) tries) bonds

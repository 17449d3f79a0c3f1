-- Laws of rolls and footings.
use Rattle.std.specs.Prelude.{◌≡◌, ℕ, Bool, List, Ok}
use Rattle.conventions.specs.Tries.{Served, Among}
use Rattle.generation.specs.Rolls.{RollDays, roll_of, Span, up_to, span, footing, Holds}

-- two sets of good days are the same on every day of a span
abbrev pub SameInside : Span → (ℕ → Bool) → (ℕ → Bool) → Type 0
SameInside s good other = (d : ℕ) → Holds s d → good d ≡ other d

-- good days that are the same inside a roll's footing give the same roll, and so the same footing
abbrev pub FootingHolds : Type 0
FootingHolds = (good other : ℕ → Bool) (u : ℕ) (ds : List ℕ) (lag : ℕ) (names : List ℕ) (r : RollDays)
    → roll_of good ds lag names ≡ Ok r → SameInside (footing u ds r) good other → roll_of other ds lag names ≡ Ok r

-- the run of days tried up to a roll's adjusted day is unbroken: every day from its lowest to its highest was tried
abbrev pub RunWasTried : (ℕ → List ℕ) → Type 0
RunWasTried tries = (u a d : ℕ) → Served u → Holds (span u u (up_to a (tries u))) d → Among d (up_to a (tries u))

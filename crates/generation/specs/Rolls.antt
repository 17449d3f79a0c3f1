-- A roll's adjusted day, fixing and footing, from the good days and the days tried.
use Rattle.std.specs.Prelude.{ℕ, zero, suc, ◌-◌, ◌≤◌, min, max, Bool, cond, List, [], ◌∷◌, Some, None, Ok, Option, Result, ◌==◌}
use Rattle.faults.specs.Refusals.{Refusal, refuse}
use Rattle.conventions.specs.Tries.{served, first_good}

-- what is generated of a roll
pub record RollDays : Type 0 where
  pub adjusted : ℕ
  pub fixing : Option ℕ

-- the n-th good day among the w days before a day, counted back
unfoldable pub nth_back : (ℕ → Bool) → ℕ → ℕ → ℕ → Option ℕ
nth_back good zero day n = None
nth_back good (suc w) day n =
    cond (good (day - 1)) (cond (n == 1) (Some (day - 1)) (nth_back good w (day - 1) (n - 1))) (nth_back good w (day - 1) n)

-- the fixing of an adjusted day: 60 days are looked at
abbrev pub fixing : (ℕ → Bool) → ℕ → ℕ → Option ℕ
fixing good day lag = nth_back good 60 day lag

-- a roll with a fixing; 21 if there are too few good days
abbrev pub fixed_roll : List ℕ → ℕ → Option ℕ → Result RollDays Refusal
fixed_roll names day None = refuse 21 names
fixed_roll names day (Some f) = Ok (record { adjusted = day; fixing = Some f })

-- a roll from the first good day tried; 20 if there is none; with lag 0 there is no fixing
abbrev pub adjusted_roll : (ℕ → Bool) → List ℕ → ℕ → Option ℕ → Result RollDays Refusal
adjusted_roll good names lag None = refuse 20 names
adjusted_roll good names lag (Some day) =
    cond (lag == 0) (Ok (record { adjusted = day; fixing = None })) (fixed_roll names day (fixing good day lag))

-- the roll for which the days ds are tried; a refusal names these
abbrev pub roll_of : (ℕ → Bool) → List ℕ → ℕ → List ℕ → Result RollDays Refusal
roll_of good ds lag names = adjusted_roll good names lag (first_good good ds)

-- the roll of an unadjusted day under a convention; 45 if that does not serve the day
abbrev pub roll_answer : (ℕ → Bool) → (ℕ → List ℕ) → ℕ → ℕ → List ℕ → Result RollDays Refusal
roll_answer good tries u lag names = cond (served u) (roll_of good (tries u) lag names) (refuse 45 [])

-- from one day to another, both in it
pub record Span : Type 0 where
  pub low : ℕ
  pub high : ℕ

-- the days tried, up to a day
unfoldable pub up_to : ℕ → List ℕ → List ℕ
up_to at [] = []
up_to at (d ∷ ds) = d ∷ cond (d == at) [] (up_to at ds)

-- the lowest of u and the days of a list
unfoldable pub lowest : ℕ → List ℕ → ℕ
lowest u [] = u
lowest u (d ∷ ds) = lowest (min u d) ds

-- the highest of u and the days of a list
unfoldable pub highest : ℕ → List ℕ → ℕ
highest u [] = u
highest u (d ∷ ds) = highest (max u d) ds

-- from the lowest to the highest
abbrev pub span : ℕ → ℕ → List ℕ → Span
span low high ds = record { low = lowest low ds; high = highest high ds }

-- a lowest day stretched back to another, if there is one
abbrev pub stretched : ℕ → Option ℕ → ℕ
stretched low None = low
stretched low (Some day) = min low day

-- the footing of a roll of unadjusted day u: the run of days tried up to its adjusted day, stretched back to its fixing
abbrev pub footing : ℕ → List ℕ → RollDays → Span
footing u ds r =
    let run : Span = span u u (up_to r.adjusted ds) in
    record { low = stretched run.low r.fixing; high = run.high }

-- the run of days tried up to a day; 45 if the convention does not serve u
abbrev pub span_answer : (ℕ → List ℕ) → ℕ → ℕ → Result Span Refusal
span_answer tries u at = cond (served u) (Ok (span u u (up_to at (tries u)))) (refuse 45 [])

-- the footing of a kept roll
abbrev pub footing_answer : (ℕ → List ℕ) → ℕ → RollDays → Result Span Refusal
footing_answer tries u r = cond (served u) (Ok (footing u (tries u) r)) (refuse 45 [])

-- the span holds the day
abbrev pub Holds : Span → ℕ → Type 0
Holds s d = (s.low ≤ d) × (d ≤ s.high)

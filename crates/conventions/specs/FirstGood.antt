-- The first good day among those tried.
use Rattle.std.specs.Prelude.{ℕ, Bool, cond, List, [], ◌∷◌, Some, None, Ok, Option, Result}
use Rattle.faults.specs.Refusals.{Refusal, refuse}
use Rattle.conventions.specs.Tries.{served, first_good}

-- the first day tried that is good, if there is one; 45 for a day that is not served
abbrev pub first_good_answer : (ℕ → Bool) → (ℕ → List ℕ) → ℕ → Result (Option ℕ) Refusal
first_good_answer good tries u = cond (served u) (Ok (first_good good (tries u))) (refuse 45 [])

-- the day that was found, else 20 naming bond 0, roll 0 and the unadjusted day
abbrev pub found_or_refused : ℕ → Option ℕ → Result ℕ Refusal
found_or_refused u (Some d) = Ok d
found_or_refused u None = refuse 20 (0 ∷ 0 ∷ u ∷ [])

-- the adjusted day of u; 45 where u is not served
abbrev pub adjust_answer : (ℕ → Bool) → (ℕ → List ℕ) → ℕ → Result ℕ Refusal
adjust_answer good tries u = cond (served u) (found_or_refused u (first_good good (tries u))) (refuse 45 [])

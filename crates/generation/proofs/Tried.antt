-- What a convention's answers tell of the days that it tries.
use Rattle.std.proofs.Common.{◌≡◌, ℕ, true, cond, List, length, Ok, Result, ap, arith}
use Rattle.std.proofs.lemmas.Bool.Decides.{nat_tests}
use Rattle.faults.specs.Refusals.{Refusal}
use Rattle.conventions.specs.Tries.{served, count_answer}

-- a count was given, so the day is served
pub count_served : (tries : ℕ → List ℕ) (u n : ℕ) → Ok n ≡ count_answer tries u → served u ≡ true
count_served tries u n e = grind (arith, nat_tests)

pub count_is : (tries : ℕ → List ℕ) (u n : ℕ) → Ok n ≡ count_answer tries u → n ≡ length (tries u)
count_is tries u n e = grind (arith, nat_tests)

-- an answer for a day that is served
pub served_answer : {A : Type 0} (u : ℕ) (x y : A) (f : Result A Refusal) → served u ≡ true → x ≡ y → Ok x ≡ cond (served u) (Ok y) f
served_answer u x y f s e = rw s (ap Ok e)

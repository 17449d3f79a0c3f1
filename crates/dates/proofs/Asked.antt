-- What an answer to a question about a day tells.
use Rattle.std.proofs.Common.{◌≡◌, ℕ, ◌≤◌, Ok, Err, arith}
use Rattle.std.proofs.lemmas.Bool.Decides.{nat_tests}
use Rattle.faults.specs.Refusals.{Refusal}
use Rattle.dates.specs.Civil.{asked}

-- it was granted, so the day is one of the calendar's, and the answer is the one asked for
pub asked_low : {A : Type 0} (d : ℕ) (x a : A) → Ok x ≡ asked d a → d ≤ 109572
asked_low d x a e = grind (arith, nat_tests)

pub asked_is : {A : Type 0} (d : ℕ) (x a : A) → Ok x ≡ asked d a → x ≡ a
asked_is d x a e = grind (arith, nat_tests)

-- such a day is answered
pub answered : {A : Type 0} (d : ℕ) (x a : A) → d ≤ 109572 → x ≡ a → Ok x ≡ asked d a
answered d x a h e = grind (arith, nat_tests)

-- a refusal is the same whatever was asked
pub refused : {A B : Type 0} (d : ℕ) (f : Refusal) (a : A) (b : B) → Err f ≡ asked d a → Err f ≡ asked d b
refused d f a b e = grind (arith, nat_tests)

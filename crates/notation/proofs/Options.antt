-- What a value of an option comes from.
use Rattle.std.proofs.Common.{◌≡◌, ℕ, Bool, true, false, cond, eqb, Some, None, Option, option_map, refl, ap, subst, ◌==◌, arith}
use Rattle.std.proofs.lemmas.Bool.Decides.{nat_tests}
use Rattle.notation.specs.Readers.{when, and_then}

-- a value under a test
pub when_some : {A : Type 0} (b : Bool) (o : Option A) (x : A) → when b o ≡ Some x → (b ≡ true) × (o ≡ Some x)
when_some true o x e = (refl, e)
when_some false o x e = absurd (cc)

-- a value and then another
pub some_and : {A B : Type 0} (o : Option A) (f : A → Option B) (y : B) → and_then o f ≡ Some y → (x : A) × (o ≡ Some x) × (f x ≡ Some y)
some_and None f y e = absurd (cc)
some_and (Some x) f y e = (x, refl, e)

-- the other way
pub and_some : {A B : Type 0} {o : Option A} {x : A} (f : A → Option B) → o ≡ Some x → and_then o f ≡ f x
and_some f e = ap (λ p. and_then p f) e

-- what holds of each value that f makes
pub map_some : {A B : Type 0} (f : A → B) (o : Option A) (y : B) (P : B → Type 0) → ((x : A) → o ≡ Some x → P (f x)) → option_map f o ≡ Some y → P y
map_some f None y P h e = absurd (cc)
map_some f (Some x) y P h e = let same : f x ≡ y = cc in subst P same (h x refl)

-- a value of the one where two letters are the same, else of the other
pub letter_some : {A Q : Type 0} (a b : ℕ) (o p : Option A) (y : A) → (a ≡ b → o ≡ Some y → Q) → (p ≡ Some y → Q) → cond (a == b) o p ≡ Some y → Q
letter_some {A} {Q} a b o p y same other = go (eqb a b) refl
  where
    go : (t : Bool) → eqb a b ≡ t → cond t o p ≡ Some y → Q
    go true e = same (grind (arith, nat_tests))
    go false e = other

-- A loop that looks for an element that passes a test: what it knows after the first i elements.
use Rattle.std.proofs.Common.{◌≡◌, ℕ, suc, ◌+◌, ◌-◌, ◌<◌, ◌≤◌, Bool, true, false, cond, ◌||◌, List, [], ◌∷◌, length, get_or, drop, Some, None, refl, sym, ap, ◌∙◌, add-one, arith}
use Rattle.std.proofs.lemmas.List.{at_drop_more, at_drop_all}
use Rattle.std.specs.List.{list_any}
use Rattle.calendars.specs.Rules.{any}
use Rattle.calendars.specs.Lists.{first_place}

-- the library's `list_any` is `any`
pub any_is : {X : Type 0} (test : X → Bool) (xs : List X) → list_any test xs ≡ any test xs
any_is test [] = refl
any_is test (x ∷ xs) = ap (λ b. test x || b) (any_is test xs)

module _ {X : Type 0} (test : X → Bool) (xs : List X) (i : ℕ) (so_far : any test (drop i xs) ≡ any test xs) where
  -- the element at i passes
  pub any_here : (d : X) → i < length xs → test (get_or xs i d) ≡ true → any test xs ≡ true
  any_here d l t = let f = at_drop_more (any test) xs i d l in grind (arith, f, so_far)

  -- it does not
  pub any_next : (d : X) → i < length xs → test (get_or xs i d) ≡ false → any test (drop (i + 1) xs) ≡ any test xs
  any_next d l t = let f = at_drop_more (any test) xs i d l in grind (arith, f, so_far)

  -- there is none left
  pub any_none : length xs ≤ i → any test xs ≡ false
  any_none l = sym so_far ∙ at_drop_all (any test) xs i l

-- the first place from i on is i itself where the test holds there, else the first from i + 1 on
pub first_more : (test : ℕ → Bool) (i n : ℕ) → i < n → first_place test i (n - i) ≡ cond (test i) (Some i) (first_place test (i + 1) (n - (i + 1)))
unfolding first_place
first_more test i n l = let e : n - i ≡ suc (n - (i + 1)) = omega arith in rw (e, add-one) refl

-- there is no place left
pub first_done : (test : ℕ → Bool) (i k : ℕ) → k ≡ 0 → first_place test i k ≡ None
unfolding first_place
first_done test i k e = rw e refl

-- Lists that were granted, beside what they were made from.
use Rattle.std.proofs.Common.{◌≡◌, List, [], ◌∷◌, Ok, Err, Result, refl, ap, ◌∙◌, arith}
use Rattle.std.specs.List.{AllZip}
use Rattle.faults.specs.Refusals.{Refusal}
use Rattle.generation.specs.Granting.{followed, each_granted}

module _ {A B : Type 0} where
  -- each member is what f answers of its source
  answered : (f : A → Result B Refusal) (ts : List A) (xs : List B) → each_granted f ts ≡ Ok xs → AllZip (λ t x. f t ≡ Ok x) ts xs
  unfolding each_granted
  answered f [] [] e = tt
  answered f [] (x ∷ xs) e = absurd (grind arith)
  answered f (t ∷ ts) xs e = go xs (answered f ts) (f t) refl (each_granted f ts) refl e
    where
      go : (zs : List B) → ((ys : List B) → each_granted f ts ≡ Ok ys → AllZip (λ u x. f u ≡ Ok x) ts ys) → (r : Result B Refusal) → f t ≡ r
          → (rs : Result (List B) Refusal) → each_granted f ts ≡ rs → followed r rs ≡ Ok zs → AllZip (λ u x. f u ≡ Ok x) (t ∷ ts) zs
      go zs more (Err u) p rs q s = absurd (grind arith)
      go zs more (Ok y) p (Err u) q s = absurd (grind arith)
      go [] more (Ok y) p (Ok ys) q s = absurd (grind arith)
      go (z ∷ zs) more (Ok y) p (Ok ys) q s = let a : y ≡ z = cc in let b : ys ≡ zs = cc in (p ∙ ap Ok a, more zs (q ∙ ap Ok b))

  module _ (f g : A → Result B Refusal) (Q : List A → List B → List B → Type 0) (none : Q [] [] [])
      (more : (t : A) (x y : B) (ts : List A) (xs ys : List B) → f t ≡ Ok x → g t ≡ Ok y → Q ts xs ys → Q (t ∷ ts) (x ∷ xs) (y ∷ ys)) where
    -- what holds of no members, and of one more in each list, holds of lists that stand side by side
    in_step : (ts : List A) (xs ys : List B) → AllZip (λ t x. f t ≡ Ok x) ts xs → AllZip (λ t y. g t ≡ Ok y) ts ys → Q ts xs ys
    in_step [] [] [] a b = none
    in_step [] [] (y ∷ ys) a b = absurd b
    in_step [] (x ∷ xs) ys a b = absurd a
    in_step (t ∷ ts) [] ys a b = absurd a
    in_step (t ∷ ts) (x ∷ xs) [] a b = absurd b
    in_step (t ∷ ts) (x ∷ xs) (y ∷ ys) a b = more t x y ts xs ys a.0 b.0 (in_step ts xs ys a.1 b.1)

    -- so it holds of two lists that were granted from one
    pub both_granted : (ts : List A) (xs ys : List B) → each_granted f ts ≡ Ok xs → each_granted g ts ≡ Ok ys → Q ts xs ys
    both_granted ts xs ys a b = in_step ts xs ys (answered f ts xs a) (answered g ts ys b)

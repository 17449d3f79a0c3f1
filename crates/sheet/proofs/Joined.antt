-- Two lists joined: the places of either, and what holds between members.
use Rattle.std.proofs.Common.{ℕ, zero, suc, ◌+◌, ◌<◌, List, [], ◌∷◌, ◌++◌, length, arith}
use Rattle.std.proofs.lemmas.List.{length-append, get_or_append_left, get_or-append-add}
use Rattle.std.proofs.lemmas.List.Elements.{All-append, All-tail}
use Rattle.std.specs.List.{All, AllPairs, HoldsAt}

module _ {X : Type 0} where
  -- some place of a list
  abbrev pub Somewhere : (X → Type 0) → List X → Type 0
  Somewhere P xs = (i : ℕ) × (i < length xs) × HoldsAt P xs i

  -- a place of the first list is one of both together
  pub on_left : (P : X → Type 0) (xs ys : List X) → Somewhere P xs → Somewhere P (xs ++ ys)
  on_left P xs ys h = (h.0, omega (arith, h.1, length-append xs ys), λ d. rw (get_or_append_left xs ys d h.0 h.1) (h.2 d))

  -- so is a place of the second
  pub on_right : (P : X → Type 0) (xs ys : List X) → Somewhere P ys → Somewhere P (xs ++ ys)
  on_right P xs ys h = (length xs + h.0, omega (arith, h.1, length-append xs ys), λ d. rw (get_or-append-add xs ys h.0 d) (h.2 d))

  -- what holds within each of the lists, and from the first to the second, holds within both together
  pub pairs_joined : (R : X → X → Type 0) (xs ys : List X) → AllPairs R xs → AllPairs R ys → All (λ x. All (R x) ys) xs → AllPairs R (xs ++ ys)
  pairs_joined R [] ys a b c = b
  pairs_joined R (x ∷ xs) ys a b c =
      at (pairs_joined R xs ys (λ i j d l m. a (suc i) (suc j) d (omega arith) (omega arith)) b (All-tail (λ z. All (R z) ys) x xs c))
      (All-append (R x) xs ys (λ j d m. a 0 (suc j) d (omega arith) (omega arith)) (c 0 x (omega arith)))
    where
      at : AllPairs R (xs ++ ys) → All (R x) (xs ++ ys) → AllPairs R (x ∷ (xs ++ ys))
      at more first i zero d l m = absurd (omega arith)
      at more first zero (suc j) d l m = first j d (omega arith)
      at more first (suc i) (suc j) d l m = more i j d (omega arith) (omega arith)

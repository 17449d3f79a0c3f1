-- The place of a key, by the first record that is not before it.
use Rattle.std.proofs.Common.{◌≡◌, ℕ, leb, List, [], ◌∷◌, length, get_or, Some, None, Ok, Err, refl, arith}
use Rattle.std.specs.List.{position}
use Rattle.std.proofs.lemmas.Bool.Decides.{nat_tests}
use Rattle.tables.specs.Tables.{found}

module _ {R : Type 0} (key : R → ℕ) (k : ℕ) where
  -- behind all the records, where none has the key or a higher one
  pub found_behind : (xs : List R) → position (λ x. leb k (key x)) xs ≡ None → Err (length xs) ≡ found key k xs
  found_behind [] e = refl
  found_behind (x ∷ xs) e = let i = found_behind xs in grind (arith, nat_tests)

  -- at the first of those, where it has the key
  pub found_here : (xs : List R) (at : ℕ) (x : R) → position (λ y. leb k (key y)) xs ≡ Some at → x ≡ get_or xs at x → key x ≡ k → Ok at ≡ found key k xs
  found_here [] at x e read same = cc
  found_here (y ∷ xs) at x e read same = let i = found_here xs in grind (arith, nat_tests)

  -- before it, where it has a higher one
  pub found_before : (xs : List R) (at : ℕ) (x : R) → position (λ y. leb k (key y)) xs ≡ Some at → x ≡ get_or xs at x → (key x ≡ k → ⊥) → Err at ≡ found key k xs
  found_before [] at x e read other = cc
  found_before (y ∷ xs) at x e read other = let i = found_before xs in grind (arith, nat_tests)

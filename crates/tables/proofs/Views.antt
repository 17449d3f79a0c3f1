-- Records seen through a function that keeps their keys.
use Rattle.std.proofs.Common.{◌≡◌, ℕ, suc, ◌&&◌, leb, List, [], ◌∷◌, map, refl, ap, arith}
use Rattle.std.proofs.lemmas.Bool.Decides.{nat_tests}
use Rattle.tables.specs.Tables.{rising, has, with_record, without}

module _ {R S : Type 0} (f : R → S) (key : S → ℕ) where
  -- a record put in
  pub map_with : (r : R) (xs : List R) → map f (with_record (λ x. key (f x)) r xs) ≡ with_record key (f r) (map f xs)
  map_with r [] = refl
  map_with r (x ∷ xs) = let h = map_with r xs in grind (arith, nat_tests)

  -- a key taken out
  pub map_without : (k : ℕ) (xs : List R) → map f (without (λ x. key (f x)) k xs) ≡ without key k (map f xs)
  map_without k [] = refl
  map_without k (x ∷ xs) = let h = map_without k xs in grind (arith, nat_tests)

  -- the keys that are held are the same
  pub has_map : (k : ℕ) (xs : List R) → has key k (map f xs) ≡ has (λ x. key (f x)) k xs
  has_map k [] = refl
  has_map k (x ∷ xs) = let h = has_map k xs in grind (arith, nat_tests)

  -- and rise alike
  pub rising_map : (low : ℕ) (xs : List R) → rising key low (map f xs) ≡ rising (λ x. key (f x)) low xs
  rising_map low [] = refl
  rising_map low (x ∷ xs) = ap (λ t. leb low (key (f x)) && t) (rising_map (suc (key (f x))) xs)

-- Keys that rise, and what keeps them so.
use Rattle.std.proofs.Common.{◌≡◌, ℕ, suc, ◌<◌, ◌≤◌, true, false, List, [], ◌∷◌, refl, arith}
use Rattle.std.proofs.lemmas.Bool.Decides.{nat_tests}
use Rattle.tables.specs.Tables.{rising, has, with_record, without}

module _ {R : Type 0} (key : R → ℕ) where
  -- they rise from any lower number too
  pub rising_from : (low up : ℕ) (xs : List R) → low ≤ up → rising key up xs ≡ true → rising key low xs ≡ true
  rising_from low up [] l h = refl
  rising_from low up (x ∷ xs) l h = grind (arith, nat_tests)

  -- a record put in keeps them rising
  pub rising_with : (r : R) (low : ℕ) (xs : List R) → rising key low xs ≡ true → low ≤ key r → rising key low (with_record key r xs) ≡ true
  rising_with r low [] h l = grind (arith, nat_tests)
  rising_with r low (x ∷ xs) h l = let i = rising_with r (suc (key x)) xs in grind (arith, nat_tests)

  -- a key taken out keeps them rising
  pub rising_without : (k low : ℕ) (xs : List R) → rising key low xs ≡ true → rising key low (without key k xs) ≡ true
  rising_without k low [] h = refl
  rising_without k low (x ∷ xs) h =
      let i = rising_without k (suc (key x)) xs in let j = rising_from low (suc (key x)) xs in grind (arith, nat_tests)

  -- a key below them all is not held
  pub has_below : (k low : ℕ) (xs : List R) → k < low → rising key low xs ≡ true → has key k xs ≡ false
  has_below k low [] l h = refl
  has_below k low (x ∷ xs) l h = grind (arith, nat_tests)

  -- a key that was taken out is not held
  pub has_without : (k low : ℕ) (xs : List R) → rising key low xs ≡ true → has key k (without key k xs) ≡ false
  has_without k low [] h = refl
  has_without k low (x ∷ xs) h =
      let i = has_without k (suc (key x)) xs in let j = has_below k (suc (key x)) xs in grind (arith, nat_tests)

-- What a shift by one place leaves.
use Rattle.std.proofs.Common.{◌≡◌, ℕ, zero, suc, ◌+◌, ◌-◌, ◌<◌, true, false, List, [], ◌∷◌, ◌++◌, length, take, drop, set, refl, arith}
use Rattle.std.specs.List.{copy_within}
use Rattle.std.proofs.lemmas.Bool.{false≢true}
use Rattle.std.proofs.lemmas.List.{take-append-drop}
use Rattle.std.proofs.lemmas.Bool.Decides.{nat_tests}
use Rattle.tables.specs.Tables.{place, has, with_record, without}

module _ {R : Type 0} (x : R) (xs : List R) where
  -- a copy behind the first element
  copy_within-cons : (i j d : ℕ) → copy_within (x ∷ xs) (suc i) (suc j) (suc d) ≡ x ∷ copy_within xs i j d
  copy_within-cons i j d = let e : suc j - suc i ≡ j - i = omega arith in let f : suc d + (j - i) ≡ suc (d + (j - i)) = omega arith in rw (e, f)

  -- all from the first on, one place on
  moved_on : (n : ℕ) → copy_within (x ∷ xs) 0 (suc n) 1 ≡ x ∷ (x ∷ take n xs) ++ drop (suc n) xs
  moved_on n = let e : suc n - 0 ≡ suc n = omega arith in let f : 1 + suc n ≡ suc (suc n) = omega arith in rw (e, f)

  -- all behind the first, one place back
  moved_back : (n : ℕ) → copy_within (x ∷ xs) 1 (suc n) 0 ≡ take n xs ++ drop n (x ∷ xs)
  moved_back n = let e : suc n - 1 ≡ n = omega arith in let f : 0 + n ≡ n = omega arith in rw (e, f)

module _ {R : Type 0} (key : R → ℕ) where
  -- the later ones moved on, and the record written at its place
  pub put_in : (r : R) (n : ℕ) (xs : List R) (at : ℕ) → n < length xs → has key (key r) (take n xs) ≡ false → at ≡ place key (key r) (take n xs)
      → set (copy_within xs at n (suc at)) at r ≡ with_record key r (take n xs) ++ drop (suc n) xs
  put_in r n [] at h o e = absurd (omega arith)
  put_in r zero (x ∷ xs) zero h o e = refl
  put_in r zero (x ∷ xs) (suc at) h o e = absurd (omega arith)
  put_in r (suc n) (x ∷ xs) zero h o e = let m = moved_on x xs n in grind (arith, nat_tests)
  put_in r (suc n) (x ∷ xs) (suc at) h o e = let i = put_in r n xs at in let s = copy_within-cons x xs at n (suc at) in grind (arith, nat_tests)

  -- the later ones of one more than n moved back
  taken_back : (k n : ℕ) (xs : List R) (at : ℕ) → has key k (take (suc n) xs) ≡ true → at ≡ place key k (take (suc n) xs)
      → copy_within xs (suc at) (suc n) at ≡ without key k (take (suc n) xs) ++ drop n xs
  taken_back k n [] at o e = absurd (false≢true o)
  taken_back k n (x ∷ xs) zero o e = let m = moved_back x xs n in grind (arith, nat_tests)
  taken_back k zero (x ∷ xs) (suc at) o e = grind (arith, nat_tests)
  taken_back k (suc n) (x ∷ xs) (suc at) o e = let i = taken_back k n xs at in let s = copy_within-cons x xs (suc at) (suc n) at in grind (arith, nat_tests)

  -- the later ones of n moved back
  pub taken_out : (k n : ℕ) (xs : List R) (at : ℕ) → has key k (take n xs) ≡ true → at ≡ place key k (take n xs)
      → copy_within xs (suc at) n at ≡ without key k (take n xs) ++ drop (n - 1) xs
  taken_out k zero xs at o e = absurd (false≢true o)
  taken_out k (suc n) xs at o e = let m : suc n - 1 ≡ n = omega arith in rw m (taken_back k n xs at o e)

  -- a record written over the one of its key
  pub written_over : (r : R) (n : ℕ) (xs : List R) → has key (key r) (take n xs) ≡ true
      → set xs (place key (key r) (take n xs)) r ≡ with_record key r (take n xs) ++ drop n xs
  written_over r zero xs o = absurd (false≢true o)
  written_over r (suc n) [] o = absurd (false≢true o)
  written_over r (suc n) (x ∷ xs) o = let i = written_over r n xs in let t = take-append-drop n xs in grind (arith, nat_tests)

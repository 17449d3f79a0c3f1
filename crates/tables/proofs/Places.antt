-- Where a key is, and how many records there are after a change; of any list.
use Rattle.std.proofs.Common.{◌≡◌, ℕ, ◌+◌, ◌<◌, true, false, List, [], ◌∷◌, length, get_or, is_ok, Ok, Err, refl, arith}
use Rattle.std.proofs.lemmas.Bool.{false≢true}
use Rattle.std.proofs.lemmas.Bool.Decides.{nat_tests}
use Rattle.tables.specs.Tables.{place, has, found, with_record, without}

module _ {R : Type 0} (key : R → ℕ) where
  -- the place of a key that is held is one of theirs
  pub place_lt : (k : ℕ) (xs : List R) → has key k xs ≡ true → place key k xs < length xs
  place_lt k [] h = absurd (false≢true h)
  place_lt k (x ∷ xs) h = let i = place_lt k xs in grind (arith, nat_tests)

  -- and the record there has the key
  pub place_key : (k : ℕ) (xs : List R) (d : R) → has key k xs ≡ true → key (get_or xs (place key k xs) d) ≡ k
  place_key k [] d h = absurd (false≢true h)
  place_key k (x ∷ xs) d h = let i = place_key k xs d in grind (arith, nat_tests)

  -- a record written over another leaves as many
  pub length_with_held : (r : R) (xs : List R) → has key (key r) xs ≡ true → length (with_record key r xs) ≡ length xs
  length_with_held r [] h = absurd (false≢true h)
  length_with_held r (x ∷ xs) h = let i = length_with_held r xs in grind (arith, nat_tests)

  -- one of a new key makes one more
  pub length_with_absent : (r : R) (xs : List R) → has key (key r) xs ≡ false → length (with_record key r xs) ≡ length xs + 1
  length_with_absent r [] h = refl
  length_with_absent r (x ∷ xs) h = let i = length_with_absent r xs in grind (arith, nat_tests)

  -- a key taken out leaves one fewer
  pub length_without_held : (k : ℕ) (xs : List R) → has key k xs ≡ true → length (without key k xs) + 1 ≡ length xs
  length_without_held k [] h = absurd (false≢true h)
  length_without_held k (x ∷ xs) h = let i = length_without_held k xs in grind (arith, nat_tests)

  -- a search finds the keys that are held
  pub found_is_ok : (k : ℕ) (xs : List R) → is_ok (found key k xs) ≡ has key k xs
  found_is_ok k xs = grind (arith, nat_tests)

  -- found: it is held, and this is its place
  pub when_found : (k at : ℕ) (xs : List R) → Ok at ≡ found key k xs → (has key k xs ≡ true) × (at ≡ place key k xs)
  when_found k at xs e = (grind (arith, nat_tests), grind (arith, nat_tests))

  -- not found: it is not held, and belongs here
  pub when_absent : (k at : ℕ) (xs : List R) → Err at ≡ found key k xs → (has key k xs ≡ false) × (at ≡ place key k xs)
  when_absent k at xs e = (grind (arith, nat_tests), grind (arith, nat_tests))

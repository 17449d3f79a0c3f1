-- What calls on a table leave in its places, and in the first of them.
use Rattle.std.proofs.Common.{◌≡◌, ℕ, ◌+◌, ◌-◌, ◌<◌, ◌≤◌, true, false, not, ltb, leb, List, length, get_or, take, drop, set, Ok, Err, sym, ap, ◌∙◌, add-one, arith}
use Rattle.std.specs.List.{copy_within}
use Rattle.std.proofs.lemmas.List.{get_or-take, length-take-le, take_at}
use Rattle.std.proofs.lemmas.Bool.{and_parts, not-true, ltb-true, leb-true}
use Rattle.std.proofs.lemmas.Bool.Decides.{nat_tests}
use Rattle.tables.specs.Tables.{place, has, found, with_record, without, insertable, held, after_insert, after_remove, after_replace}
use Rattle.tables.proofs.Shifts.{put_in, taken_out, written_over}
use Rattle.tables.proofs.Places.{place_lt, place_key, length_with_absent, length_without_held, length_with_held, when_found, when_absent}

module _ {R : Type 0} (key : R → ℕ) (E : List R) (n : ℕ) where
  -- a record that does not fit was not put in
  pub not_inserted : (r : R) → false ≡ insertable key n r E → E ≡ after_insert key n r E
  not_inserted r h = grind (arith, nat_tests)

  -- a key that is not held was not taken out
  pub not_removed : (k : ℕ) → false ≡ held key n k E → E ≡ after_remove key n k E
  not_removed k h = grind (arith, nat_tests)

  -- a record whose key was not found among the first n was put in at its place
  pub inserted : (r : R) (at : ℕ) (P : List R) → n < length E → Err at ≡ found key (key r) (take n E) → P ≡ copy_within E at n (at + 1) → set P at r ≡ after_insert key n r E
  inserted r at P room miss moved =
      let w = when_absent key (key r) at (take n E) miss in
      let fits : insertable key n r E ≡ true = grind (arith, nat_tests) in
      rw (moved, fits, add-one at, add-one n) (put_in key r n E at room w.0 w.1)

  -- a key that is held was taken out at its place
  pub removed : (k at : ℕ) (P : List R) → held key n k E ≡ true → at ≡ place key k (take n E) → P ≡ copy_within E (at + 1) n at → P ≡ after_remove key n k E
  removed k at P h e moved =
      let p = and_parts (leb n (length E)) (has key k (take n E)) h in
      rw (moved, h, add-one at) (taken_out key k n E at p.1 e)

  -- a record was written over the one of its key
  pub replaced : (r : R) → held key n (key r) E ≡ true → set E (place key (key r) (take n E)) r ≡ after_replace key n r E
  replaced r h = let w = written_over key r n E in grind (arith, nat_tests)

  -- A search among the first n found the key k.
  module _ (k at : ℕ) (inside : n ≤ length E) (hit : Ok at ≡ found key k (take n E)) where
    -- the place is one of the first n
    pub found_lt : at < n
    found_lt =
        let w = when_found key k at (take n E) hit in
        let l = place_lt key k (take n E) w.0 in
        let t = length-take-le n E inside in
        omega arith

    -- the record there has the key
    pub found_key : (d : R) → key (get_or E at d) ≡ k
    found_key d =
        let w = when_found key k at (take n E) hit in
        ap key (sym (get_or-take n E at d found_lt)) ∙ ap (λ j. key (get_or (take n E) j d)) w.1 ∙ place_key key k (take n E) d w.0

  -- A search among the first n found r's key, and r was written there: the first n have it.
  pub take_set_since : (r : R) (at : ℕ) → n ≤ length E → Ok at ≡ found key (key r) (take n E) → take n (set E at r) ≡ with_record key r (take n E)
  take_set_since r at inside hit =
      let w = when_found key (key r) at (take n E) hit in
      let t = length-take-le n E inside in
      let l = length_with_held key r (take n E) w.0 in
      ap (λ j. take n (set E j r)) w.1 ∙ ap (take n) (written_over key r n E w.0)
      ∙ take_at (with_record key r (take n E)) (drop n E) n (omega arith)

  -- the records that are held after one was put in
  pub take_after_insert : (r : R) → insertable key n r E ≡ true → take (n + 1) (after_insert key n r E) ≡ with_record key r (take n E)
  take_after_insert r h =
      let p = and_parts (ltb n (length E)) (not (has key (key r) (take n E))) h in
      let l = ltb-true n (length E) p.0 in
      let t = length-take-le n E (omega arith) in
      let m = length_with_absent key r (take n E) (not-true (has key (key r) (take n E)) p.1) in
      rw h (take_at (with_record key r (take n E)) (drop (n + 1) E) (n + 1) (omega arith))

  -- after one was taken out
  pub take_after_remove : (k : ℕ) → held key n k E ≡ true → take (n - 1) (after_remove key n k E) ≡ without key k (take n E)
  take_after_remove k h =
      let p = and_parts (leb n (length E)) (has key k (take n E)) h in
      let t = length-take-le n E (leb-true n (length E) p.0) in
      let m = length_without_held key k (take n E) p.1 in
      rw h (take_at (without key k (take n E)) (drop (n - 1) E) (n - 1) (omega arith))

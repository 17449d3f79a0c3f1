-- Lists of records by rising key, and what is done to them.
use Rattle.std.specs.Prelude.{ℕ, suc, ◌+◌, ◌-◌, Bool, true, false, cond, not, ◌&&◌, List, [], ◌∷◌, ◌++◌, length, take, drop, Ok, Err, Result, ◌==◌, nat_le, nat_lt}

-- the keys rise strictly, from at least low
abbrev pub rising : {R : Type 0} → (R → ℕ) → ℕ → List R → Bool
rising key low [] = true
rising key low (x ∷ xs) = nat_le low (key x) && rising key (suc (key x)) xs

-- the place of a key: behind the records of lower keys with which the list begins
abbrev pub place : {R : Type 0} → (R → ℕ) → ℕ → List R → ℕ
place key k [] = 0
place key k (x ∷ xs) = cond (nat_lt (key x) k) (suc (place key k xs)) 0

-- a record of the key stands there
abbrev pub has : {R : Type 0} → (R → ℕ) → ℕ → List R → Bool
has key k [] = false
has key k (x ∷ xs) = cond (nat_lt (key x) k) (has key k xs) (key x == k)

-- where the key is, or else where it belongs
abbrev pub found : {R : Type 0} → (R → ℕ) → ℕ → List R → Result ℕ ℕ
found key k xs = cond (has key k xs) (Ok (place key k xs)) (Err (place key k xs))

-- the list with a record put at its key's place, instead of one of that key
abbrev pub with_record : {R : Type 0} → (R → ℕ) → R → List R → List R
with_record key r [] = r ∷ []
with_record key r (x ∷ xs) =
    cond (nat_lt (key x) (key r)) (x ∷ with_record key r xs) (cond (key x == key r) (r ∷ xs) (r ∷ x ∷ xs))

-- the list without the record of a key
abbrev pub without : {R : Type 0} → (R → ℕ) → ℕ → List R → List R
without key k [] = []
without key k (x ∷ xs) = cond (nat_lt (key x) k) (x ∷ without key k xs) (cond (key x == k) xs (x ∷ xs))

-- Places of which the first n hold records, the others anything.

-- one more record fits: a place is free, and its key is not held
abbrev pub insertable : {R : Type 0} → (R → ℕ) → ℕ → R → List R → Bool
insertable key n r places = nat_lt n (length places) && not (has key (key r) (take n places))

-- the places with one more record, if it fits
abbrev pub after_insert : {R : Type 0} → (R → ℕ) → ℕ → R → List R → List R
after_insert key n r places =
    cond (insertable key n r places) (with_record key r (take n places) ++ drop (n + 1) places) places

-- the key is held
abbrev pub held : {R : Type 0} → (R → ℕ) → ℕ → ℕ → List R → Bool
held key n k places = nat_le n (length places) && has key k (take n places)

-- the places with the record of a key taken out, if it is held; the place that falls free keeps what stood there
abbrev pub after_remove : {R : Type 0} → (R → ℕ) → ℕ → ℕ → List R → List R
after_remove key n k places = cond (held key n k places) (without key k (take n places) ++ drop (n - 1) places) places

-- the places with a record instead of the one of its key, if that is held
abbrev pub after_replace : {R : Type 0} → (R → ℕ) → ℕ → R → List R → List R
after_replace key n r places = cond (held key n (key r) places) (with_record key r (take n places) ++ drop n places) places

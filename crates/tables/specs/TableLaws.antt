-- What the definitions of tables come to where the keys rise.
use Rattle.std.specs.Prelude.{◌≡◌, ℕ, ◌<◌, ◌≤◌, true, List, length, Ok, Err, Result, ◌≢◌, slice_index_or}
use Rattle.tables.specs.Tables.{rising, has, with_record, without}

-- the record stands in the list
abbrev pub Stands : {R : Type 0} → R → List R → Type 0
Stands r xs = (k : ℕ) × (k < length xs) × (slice_index_or xs k r ≡ r)

-- a place that was found is one of the n records; one where the key belongs may be behind them
abbrev pub Within : ℕ → Result ℕ ℕ → Type 0
Within n (Ok at) = at < n
Within n (Err at) = at ≤ n

-- a key is held exactly if some record has it
pub record HeldLaw {R : Type 0} (key : R → ℕ) (xs : List R) : Type 0 where
  pub only : (k : ℕ) → has key k xs ≡ true → (r : R) × (key r ≡ k) × Stands r xs
  pub all : (r : R) → Stands r xs → has key (key r) xs ≡ true

-- a record that is put in stands there, every other record of another key stays, none else comes, and the keys rise
pub record PutLaw {R : Type 0} (key : R → ℕ) (r : R) (xs : List R) : Type 0 where
  pub rises : rising key 0 (with_record key r xs) ≡ true
  pub comes : Stands r (with_record key r xs)
  pub stays : (x : R) → Stands x xs → (key x ≢ key r) → Stands x (with_record key r xs)
  pub only : (x : R) → Stands x (with_record key r xs) → (key x ≡ key r → x ≡ r) × ((key x ≢ key r) → Stands x xs)

-- a key that is taken out is held no more, every record of another key stays, none else comes, and the keys rise
pub record OutLaw {R : Type 0} (key : R → ℕ) (k : ℕ) (xs : List R) : Type 0 where
  pub rises : rising key 0 (without key k xs) ≡ true
  pub stays : (x : R) → Stands x xs → (key x ≢ k) → Stands x (without key k xs)
  pub only : (x : R) → Stands x (without key k xs) → (key x ≢ k) × Stands x xs

-- The days that a convention tries, and what is asked of them.
use Rattle.std.specs.Prelude.{◌≡◌, ℕ, ◌+◌, ◌<◌, ◌≤◌, Bool, cond, ◌&&◌, List, [], ◌∷◌, length, Some, None, Ok, Option, Result, ◌≢◌, nat_le, nat_lt, slice_index}
use Rattle.faults.specs.Refusals.{Refusal, refuse}

-- an unadjusted day that conventions serve: from 365 to 109,207
abbrev pub Served : ℕ → Type 0
Served u = (365 ≤ u) × (u ≤ 109207)

abbrev pub served : ℕ → Bool
served u = nat_le 365 u && nat_le u 109207

-- the first day of the list that is good
unfoldable pub first_good : (ℕ → Bool) → List ℕ → Option ℕ
first_good good [] = None
first_good good (d ∷ ds) = cond (good d) (Some d) (first_good good ds)

-- the day stands in the list
abbrev pub Among : ℕ → List ℕ → Type 0
Among d ds = (k : ℕ) × (k < length ds) × (slice_index ds k ≡ d)

-- the days are different and form an unbroken run: they are those from low on, as many as the list is long
pub record Run (ds : List ℕ) : Type 0 where
  pub low : ℕ
  pub whole : (d : ℕ) → low ≤ d → d < low + length ds → Among d ds
  pub only : (d : ℕ) → Among d ds → (low ≤ d) × (d < low + length ds)
  pub different : (j k : ℕ) → j < k → k < length ds → slice_index ds j ≢ slice_index ds k

-- how many days are tried; 45 for a day that is not served
abbrev pub count_answer : (ℕ → List ℕ) → ℕ → Result ℕ Refusal
count_answer tries u = cond (served u) (Ok (length (tries u))) (refuse 45 [])

-- the day at a place of a list; 45 past its end
abbrev pub day_in : List ℕ → ℕ → Result ℕ Refusal
day_in ds k = cond (nat_lt k (length ds)) (Ok (slice_index ds k)) (refuse 45 [])

-- the k-th day tried
abbrev pub nth_answer : (ℕ → List ℕ) → ℕ → ℕ → Result ℕ Refusal
nth_answer tries u k = cond (served u) (day_in (tries u) k) (refuse 45 [])

-- The twelve months, by tests over them.
use Rattle.std.proofs.Common.{◌≡◌, ℕ, suc, ◌+◌, ◌/◌, ◌<◌, ◌≤◌, Bool, true, false, cond, ◌&&◌, eqb, leb, ltb, [], ◌∷◌, get_or, refl, arith}
use Rattle.dates.specs.Years.{month_len, month_start, last_place}
use Rattle.dates.proofs.Computed.{equal, at_most}

-- the tables of the code, by a month from 0
pub start_at : (b : Bool) (m : ℕ) → m < 12
    → get_or (0 ∷ 31 ∷ 59 ∷ 90 ∷ 120 ∷ 151 ∷ 181 ∷ 212 ∷ 243 ∷ 273 ∷ 304 ∷ 334 ∷ []) m 0 + cond (b && ltb 1 m) 1 0 ≡ month_start b m
unfolding month_start
start_at true m h = equal (λ k. get_or (0 ∷ 31 ∷ 59 ∷ 90 ∷ 120 ∷ 151 ∷ 181 ∷ 212 ∷ 243 ∷ 273 ∷ 304 ∷ 334 ∷ []) k 0 + cond (ltb 1 k) 1 0) (λ k. month_start true k) 12 refl m h
start_at false m h = equal (λ k. get_or (0 ∷ 31 ∷ 59 ∷ 90 ∷ 120 ∷ 151 ∷ 181 ∷ 212 ∷ 243 ∷ 273 ∷ 304 ∷ 334 ∷ []) k 0 + 0) (λ k. month_start false k) 12 refl m h

pub len_at : (b : Bool) (m : ℕ) → m < 12
    → cond (b && eqb m 1) 29 (get_or (31 ∷ 28 ∷ 31 ∷ 30 ∷ 31 ∷ 30 ∷ 31 ∷ 31 ∷ 30 ∷ 31 ∷ 30 ∷ 31 ∷ []) m 0) ≡ month_len b m
unfolding month_len
len_at true m h = equal (λ k. cond (eqb k 1) 29 (get_or (31 ∷ 28 ∷ 31 ∷ 30 ∷ 31 ∷ 30 ∷ 31 ∷ 31 ∷ 30 ∷ 31 ∷ 30 ∷ 31 ∷ []) k 0)) (λ k. month_len true k) 12 refl m h
len_at false m h = equal (λ k. get_or (31 ∷ 28 ∷ 31 ∷ 30 ∷ 31 ∷ 30 ∷ 31 ∷ 31 ∷ 30 ∷ 31 ∷ 30 ∷ 31 ∷ []) k 0) (λ k. month_len false k) 12 refl m h

pub month_more : (b : Bool) (m : ℕ) → month_start b (suc m) ≡ month_start b m + month_len b m
unfolding month_start month_len
month_more b m = refl

pub whole : (b : Bool) → month_start b 12 ≡ cond b 366 365
unfolding month_start
whole true = refl
whole false = refl

pub whole_high : (b : Bool) → month_start b 12 ≤ 366
whole_high true = omega (arith, whole true)
whole_high false = omega (arith, whole false)

pub len_low : (b : Bool) (m : ℕ) → m < 12 → 28 ≤ month_len b m
unfolding month_len
len_low true m h = at_most (λ k. 28) (λ k. month_len true k) 12 refl m h
len_low false m h = at_most (λ k. 28) (λ k. month_len false k) 12 refl m h

pub len_high : (b : Bool) (m : ℕ) → m < 12 → month_len b m ≤ 31
unfolding month_len
len_high true m h = at_most (λ k. month_len true k) (λ k. 31) 12 refl m h
len_high false m h = at_most (λ k. month_len false k) (λ k. 31) 12 refl m h

pub month_rising : (b : Bool) (m : ℕ) → month_start b m ≤ month_start b (suc m)
month_rising b m = omega (arith, month_more b m)

pub start_high : (b : Bool) (m : ℕ) → m ≤ 12 → month_start b m ≤ cond b 366 365
unfolding month_start
start_high true m h = at_most (λ k. month_start true k) (λ k. 366) 13 refl m (omega arith)
start_high false m h = at_most (λ k. month_start false k) (λ k. 365) 13 refl m (omega arith)

-- the guess of a day's month, by a test over all days of a year
pub guessed : (b : Bool) (r : ℕ) → r < 366
    → cond (ltb (r / 31) 11 && leb (month_start b (r / 31 + 1)) r) (r / 31 + 1) (r / 31) ≡ last_place (month_start b) 11 r
unfolding month_start last_place
guessed true r h =
    equal (λ k. cond (ltb (k / 31) 11 && leb (month_start true (k / 31 + 1)) k) (k / 31 + 1) (k / 31)) (λ k. last_place (month_start true) 11 k) 366 refl r h
guessed false r h =
    equal (λ k. cond (ltb (k / 31) 11 && leb (month_start false (k / 31 + 1)) k) (k / 31 + 1) (k / 31)) (λ k. last_place (month_start false) 11 k) 366 refl r h

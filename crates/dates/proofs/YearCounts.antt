-- The closed count of days before a year, by one computed test over 300 years.
use Rattle.std.proofs.Common.{◌≡◌, ℕ, zero, suc, ◌+◌, ◌-◌, ◌*◌, ◌/◌, ◌<◌, ◌≤◌, cond, ltb, refl, ap, ◌∙◌, arith}
use Rattle.dates.specs.Years.{year_len, new_year}
use Rattle.dates.proofs.Computed.{equal}

abbrev pub closed : ℕ → ℕ
closed n = 365 * n + (n - 1) / 4 - cond (ltb 200 n) 1 0

step_at : (k : ℕ) → k < 300 → closed k + year_len (1900 + k) ≡ closed (suc k)
step_at = equal (λ k. closed k + year_len (1900 + k)) (λ k. closed (suc k)) 300 refl

pub counted : (n : ℕ) → n ≤ 300 → new_year n ≡ closed n
unfolding new_year
counted zero h = refl
counted (suc n) h = ap (λ z. z + year_len (1900 + n)) (counted n (omega arith)) ∙ step_at n h

pub rising : (k : ℕ) → new_year k ≤ new_year (suc k)
unfolding new_year
rising k = omega arith

pub year_more : (k : ℕ) → new_year (suc k) ≡ new_year k + year_len (1900 + k)
unfolding new_year
year_more k = refl

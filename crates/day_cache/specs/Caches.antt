-- The day cache: the codes of 1,024 days are kept, the others are those of the calendar below.
use Rattle.std.specs.Prelude.{◌≡◌, ℕ, ◌+◌, ◌-◌, ◌≤◌, Bool, true, false, cond, ◌&&◌, List, nat_le, nat_lt}
use Rattle.std.proofs.Common.{arith}
use Rattle.std.proofs.Math.Nat.{ℕ_set}
use mathlib.Core.HLevel.{→_set}
use Rattle.day_cache.specs.Nibbles.{kept_code}

-- one of the 1,024 days from the start
abbrev pub cached : ℕ → ℕ → Bool
cached start d = nat_le start d && nat_lt d (start + 1024)

-- the kept code inside those days, the lower calendar's outside
abbrev pub cache_codes : List ℕ → ℕ → (ℕ → ℕ) → ℕ → ℕ
cache_codes words start lower d = cond (cached start d) (kept_code words (d - start)) (lower d)

-- a start above 108,549 counts as 108,549, so that all 1,024 days are days of the calendars
abbrev pub start_day : ℕ → ℕ
start_day start = cond (nat_le start 108549) start 108549

-- no code is above 15
pub cache_small : (words : List ℕ) (start : ℕ) (lower : ℕ → ℕ) (d : ℕ) → lower d ≤ 15 → cache_codes words start lower d ≤ 15
cache_small words start lower d h =
    elim (cached start d) as (λ t. cond t (kept_code words (d - start)) (lower d) ≤ 15) [ true ↦ omega arith | false ↦ h ]

-- every kept code is the lower calendar's code now
abbrev pub Faithful : List ℕ → ℕ → (ℕ → ℕ) → Type 0
Faithful words start lower = cache_codes words start lower ≡ lower

-- there is one way at most to be so
pub Faithful-prop : (words : List ℕ) (start : ℕ) (lower : ℕ → ℕ) → IsProp (Faithful words start lower)
Faithful-prop words start lower = →_set ℕ_set _ _

-- The code of a day: 0 where it is good, else the layer, 1 to 15, that closes it.
use Rattle.std.specs.Prelude.{ℕ, ◌≤◌, Bool, true, false, cond, ◌&&◌, ◌==◌, nat_le}

-- a day of this code is good
abbrev pub good : ℕ → Bool
good code = code == 0

-- the layer of a number: any that is not from 1 to 15 is taken for 15
abbrev pub layer_of : ℕ → ℕ
layer_of n = cond (nat_le 1 n && nat_le n 15) n 15

-- two calendars as one: what the left one closes, else what the right one closes
abbrev pub over : (ℕ → ℕ) → (ℕ → ℕ) → ℕ → ℕ
over left right d = cond (good (left d)) (right d) (left d)

pub over_small : (left right : ℕ → ℕ) → ((d : ℕ) → left d ≤ 15) → ((d : ℕ) → right d ≤ 15) → (d : ℕ) → over left right d ≤ 15
over_small left right a b d = elim (good (left d)) as (λ t. cond t (right d) (left d) ≤ 15) [ true ↦ b d | false ↦ a d ]

-- the layer where a day is closed, else 0
abbrev pub closing : Bool → ℕ → ℕ
closing closed layer = cond closed layer 0

pub closing_small : (closed : Bool) (layer : ℕ) → layer ≤ 15 → closing closed layer ≤ 15
closing_small true layer h = h
closing_small false layer h = Prim.Native.Nat.zero-le

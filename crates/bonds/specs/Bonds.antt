-- Which bonds can be entered.
use Rattle.std.specs.Prelude.{ℕ, Bool, cond, ◌&&◌, ◌||◌, [], ◌∷◌, Ok, Result, ◌==◌, nat_le, nat_lt}
use Rattle.faults.specs.Refusals.{Refusal, refuse}
use Rattle.bonds.specs.declared.bond.Bond.{Bond}

-- from the one to the other
abbrev pub within : ℕ → ℕ → ℕ → Bool
within low high n = nat_le low n && nat_le n high

-- months a period
abbrev pub period : ℕ → Bool
period m = m == 1 || (m == 3 || (m == 6 || m == 12))

-- the greatest fixing lag
abbrev pub most_lag : ℕ
most_lag = 10

-- every field but the days is in its range
abbrev pub in_range : Bond → Bool
in_range b =
    within 1 999999 b.number && (period b.months && (nat_le b.stub 3 && (nat_le b.mark 1 && (nat_le b.lag most_lag
    && (within 1 100000000000 b.face && nat_le b.rate 100000)))))

-- the days are in theirs, and maturity is after effective
abbrev pub in_order : Bond → Bool
in_order b = nat_le 365 b.effective.0 && (nat_le b.maturity.0 109207 && nat_lt b.effective.0 b.maturity.0)

-- a bond is refused with 1 for a field, then with 2 for its days
abbrev pub checked : Bond → Result Bond Refusal
checked b = cond (in_range b) (cond (in_order b) (Ok b) (refuse 2 (b.number ∷ []))) (refuse 1 (b.number ∷ []))

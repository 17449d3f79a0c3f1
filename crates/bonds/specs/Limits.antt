-- The limits that a bond keeps once it has passed both tests; these are proofs, which the definition of its terms needs.
use Rattle.std.specs.Prelude.{◌≡◌, ℕ, ◌<◌, ◌≤◌, true, ◌||◌, ◌⊎◌, ◌==◌, nat_le}
use Rattle.std.proofs.Common.{inl, inr, arith}
use Rattle.std.proofs.lemmas.Bool.{and_parts, or_cases, eqb-true, leb-true, ltb-true}
use Rattle.bonds.specs.declared.bond.Bond.{Bond}
use Rattle.bonds.specs.Bonds.{within, period, most_lag, in_range, in_order}

-- a period of 1, 3, 6 or 12 months
pub period_limits : (m : ℕ) → period m ≡ true → (1 ≤ m) × (m ≤ 12)
period_limits m p = one (or_cases (m == 1) _ p)
  where
    some : (n : ℕ) → (m == n) ≡ true → 1 ≤ n → n ≤ 12 → (1 ≤ m) × (m ≤ 12)
    some n e a b = let s = eqb-true m n e in (omega arith, omega arith)

    three : ((m == 6) ≡ true) ⊎ ((m == 12) ≡ true) → (1 ≤ m) × (m ≤ 12)
    three (inl e) = some 6 e (omega arith) (omega arith)
    three (inr e) = some 12 e (omega arith) (omega arith)

    two : ((m == 3) ≡ true) ⊎ ((m == 6 || m == 12) ≡ true) → (1 ≤ m) × (m ≤ 12)
    two (inl e) = some 3 e (omega arith) (omega arith)
    two (inr e) = three (or_cases (m == 6) (m == 12) e)

    one : ((m == 1) ≡ true) ⊎ ((m == 3 || (m == 6 || m == 12)) ≡ true) → (1 ≤ m) × (m ≤ 12)
    one (inl e) = some 1 e (omega arith) (omega arith)
    one (inr e) = two (or_cases (m == 3) (m == 6 || m == 12) e)

pub record Limits (b : Bond) : Type 0 where
  pub early : 365 ≤ b.effective.0
  pub rising : b.effective.0 < b.maturity.0
  pub late : b.maturity.0 ≤ 109207
  pub number : b.number ≤ 999999
  pub some : 1 ≤ b.months
  pub year : b.months ≤ 12
  pub code : b.stub ≤ 3
  pub mark : b.mark ≤ 1
  pub lagged : b.lag ≤ most_lag
  pub faced : b.face ≤ 100000000000
  pub rated : b.rate ≤ 100000

pub limits : (b : Bond) → in_range b ≡ true → in_order b ≡ true → Limits b
limits b p q =
    let number = and_parts (within 1 999999 b.number) _ p in
    let months = and_parts (period b.months) _ number.1 in
    let stub = and_parts (nat_le b.stub 3) _ months.1 in
    let mark = and_parts (nat_le b.mark 1) _ stub.1 in
    let lag = and_parts (nat_le b.lag most_lag) _ mark.1 in
    let face = and_parts (within 1 100000000000 b.face) _ lag.1 in
    let effective = and_parts (nat_le 365 b.effective.0) _ q in
    let maturity = and_parts (nat_le b.maturity.0 109207) _ effective.1 in
    record {
      early = leb-true 365 b.effective.0 effective.0;
      rising = ltb-true b.effective.0 b.maturity.0 maturity.1;
      late = leb-true b.maturity.0 109207 maturity.0;
      number = leb-true b.number 999999 (and_parts (nat_le 1 b.number) _ number.0).1;
      some = (period_limits b.months months.0).0;
      year = (period_limits b.months months.0).1;
      code = leb-true b.stub 3 stub.0;
      mark = leb-true b.mark 1 mark.0;
      lagged = leb-true b.lag most_lag lag.0;
      faced = leb-true b.face 100000000000 (and_parts (nat_le 1 b.face) _ face.0).1;
      rated = leb-true b.rate 100000 face.1;
    }

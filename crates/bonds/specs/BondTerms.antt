-- The bond that terms were made from.
use Rattle.std.specs.Prelude.{ℕ, cond}
use Rattle.bonds.specs.declared.bond.Bond.{Bond}
use Rattle.bonds.specs.declared.stub.Stub.{Stub}
use Rattle.bonds.specs.declared.stub.Stub.TheVariants.{ShortFirst, LongFirst, ShortLast, LongLast}
use Rattle.bonds.specs.declared.terms.Terms.{Terms}

-- the code of a stub
abbrev pub stub_code : Stub → ℕ
stub_code ShortFirst = 0
stub_code LongFirst = 1
stub_code ShortLast = 2
stub_code LongLast = 3

-- every field as it was written
abbrev pub bond_of : Terms → Bond
bond_of t =
    record {
      number = t.number;
      effective = record { 0 = t.effective };
      maturity = record { 0 = t.maturity };
      months = t.months;
      stub = stub_code t.stub;
      mark = cond t.month_end 1 0;
      lag = t.lag;
      face = t.face;
      rate = t.rate;
    }

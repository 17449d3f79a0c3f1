-- The terms of a bond.
use Rattle.std.specs.Prelude.{◌≡◌, ℕ, Bool, true, false, cond, [], ◌∷◌, Ok, Err, Result, nat_le, ◌==◌, refl}
use Rattle.faults.specs.Refusals.{Refusal, refuse}
use Rattle.bonds.specs.declared.bond.Bond.{Bond}
use Rattle.bonds.specs.declared.stub.Stub.{Stub}
use Rattle.bonds.specs.declared.stub.Stub.TheVariants.{ShortFirst, LongFirst, ShortLast, LongLast}
use Rattle.bonds.specs.declared.stub.UnknownStub.{UnknownStub}
use Rattle.bonds.specs.declared.terms.Terms.{Terms}
use Rattle.bonds.specs.Bonds.{in_range, in_order}
use Rattle.bonds.specs.Limits.{limits}

-- the stub of a code from 0 to 3
abbrev pub stub_of : ℕ → Stub
stub_of code = cond (code == 0) ShortFirst (cond (code == 1) LongFirst (cond (code == 2) ShortLast LongLast))

-- the stub of a code, or an error that names a code that no stub has
abbrev pub stub_answer : ℕ → Result Stub UnknownStub
stub_answer code = cond (nat_le code 3) (Ok (stub_of code)) (Err (record { 0 = code }))

-- by the two tests: 1 for a field, then 2 for the days, else the fields, which then keep the limits of terms
abbrev pub terms_by : (b : Bond) (range : Bool) → in_range b ≡ range → (order : Bool) → in_order b ≡ order → Result Terms Refusal
terms_by b false p order q = refuse 1 (b.number ∷ [])
terms_by b true p false q = refuse 2 (b.number ∷ [])
terms_by b true p true q =
    let f = limits b p q in
    Ok
    (record {
      number = b.number;
      effective = b.effective.0;
      maturity = b.maturity.0;
      months = b.months;
      stub = stub_of b.stub;
      month_end = (b.mark == 1);
      lag = b.lag;
      face = b.face;
      rate = b.rate;
      early = f.early;
      rising = f.rising;
      late = f.late;
      some = f.some;
      year = f.year;
      lagged = f.lagged;
      faced = f.faced;
      rated = f.rated;
    })

-- the terms of a bond, or its refusal
abbrev pub terms_answer : Bond → Result Terms Refusal
terms_answer b = terms_by b (in_range b) refl (in_order b) refl

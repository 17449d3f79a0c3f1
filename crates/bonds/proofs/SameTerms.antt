-- Terms are their fields: the limits that they keep add nothing.
use Rattle.std.proofs.Common.{◌≡◌, ℕ, suc, ◌≤◌, Bool, true, false, cond, ◌&&◌, eqb, leb, Result, Ok, Err, sym, refl, ap, ◌∙◌, inl, inr, arith}
use Rattle.std.specs.Result.{MatchResult, is_ok}
use Rattle.std.proofs.lemmas.Result.{MatchResult-at_ok}
use Rattle.std.proofs.lemmas.Bool.Decides.{nat_tests}
use Rattle.faults.specs.declared.origins.SheetFault.{SheetFault}
use Rattle.bonds.specs.declared.stub.UnknownStub.{UnknownStub}
use mathlib.Core.Path.{PathP}
use mathlib.Core.HLevel.{is_prop→PathP}
use Rattle.std.proofs.lemmas.Bool.{false≢true, cases_Bool}
use native.Mathlib.Bridge.{le_prop}
use Rattle.bonds.specs.declared.bond.Bond.{Bond}
use Rattle.bonds.specs.declared.stub.Stub.{Stub}
use Rattle.bonds.specs.declared.stub.Stub.TheVariants.{ShortFirst, LongFirst, ShortLast, LongLast}
use Rattle.bonds.specs.declared.terms.Terms.{Terms}
use Rattle.bonds.specs.Bonds.{most_lag, in_range, in_order, checked}
use Rattle.bonds.specs.BondTerms.{stub_code, bond_of}
use Rattle.bonds.specs.Limits.{limits}
use Rattle.bonds.specs.TermsOf.{stub_of, stub_answer, terms_by, terms_answer}

-- a limit holds in one way only
one_way : (a b c d : ℕ) (p : a ≡ c) (q : b ≡ d) (x : a ≤ b) (y : c ≤ d) → PathP (λ i. p i ≤ q i) x y
one_way a b c d p q x y = is_prop→PathP (λ j. p j ≤ q j) (λ j. le_prop) x y

stub_of_code : (s : Stub) → s ≡ stub_of (stub_code s)
stub_of_code ShortFirst = refl
stub_of_code LongFirst = refl
stub_of_code ShortLast = refl
stub_of_code LongLast = refl

stub_code_of : (code : ℕ) → leb code 3 ≡ true → stub_code (stub_of code) ≡ code
stub_code_of code h = grind (arith, nat_tests)

mark_of_month_end : (m : Bool) → m ≡ eqb (cond m 1 0) 1
mark_of_month_end true = refl
mark_of_month_end false = refl

-- a bond whose stub and mark are written out again
pub respelled : (b : Bond) (stub mark : ℕ) → stub ≡ b.stub → mark ≡ b.mark
    → ◌≡◌ {A = Bond} (record {
      number = b.number;
      effective = b.effective;
      maturity = b.maturity;
      months = b.months;
      stub = stub;
      mark = mark;
      lag = b.lag;
      face = b.face;
      rate = b.rate;
    }) b
respelled b stub mark s m = rw (s, m)

-- the terms of a bond that has passed both tests
pub terms_are : (b : Bond) (t : Terms) → bond_of t ≡ b → in_range b ≡ true → in_order b ≡ true → Ok t ≡ terms_answer b
terms_are b t e r o = by (in_range b) refl (in_order b) refl r o
  where
    by : (range : Bool) (p : in_range b ≡ range) (order : Bool) (q : in_order b ≡ order) → range ≡ true → order ≡ true → Ok t ≡ terms_by b range p order q
    by false p order q x y = let z : ◌≡◌ {A = Bool} false true = x in absurd (false≢true z)
    by true p false q x y = absurd (false≢true y)
    by true p true q x y = ap Ok (λ i. record {
      number = (e i).number;
      effective = (e i).effective.0;
      maturity = (e i).maturity.0;
      months = (e i).months;
      stub = (stub_of_code t.stub ∙ ap (λ (x : Bond). stub_of x.stub) e) i;
      month_end = (mark_of_month_end t.month_end ∙ ap (λ (x : Bond). eqb x.mark 1) e) i;
      lag = (e i).lag;
      face = (e i).face;
      rate = (e i).rate;
      early = one_way 365 _ 365 _ refl (λ j. (e j).effective.0) t.early (limits b p q).early i;
      rising = one_way _ _ _ _ (λ j. suc (e j).effective.0) (λ j. (e j).maturity.0) t.rising (limits b p q).rising i;
      late = one_way _ 109207 _ 109207 (λ j. (e j).maturity.0) refl t.late (limits b p q).late i;
      some = one_way 1 _ 1 _ refl (λ j. (e j).months) t.some (limits b p q).some i;
      year = one_way _ 12 _ 12 (λ j. (e j).months) refl t.year (limits b p q).year i;
      lagged = one_way _ most_lag _ most_lag (λ j. (e j).lag) refl t.lagged (limits b p q).lagged i;
      faced = one_way _ 100000000000 _ 100000000000 (λ j. (e j).face) refl t.faced (limits b p q).faced i;
      rated = one_way _ 100000 _ 100000 (λ j. (e j).rate) refl t.rated (limits b p q).rated i;
    })

-- and its every field
pub whole_bond : (b c : Bond) → c ≡ b → in_range b ≡ true → in_order b ≡ true → Ok c ≡ checked b
whole_bond b c e r o = ap Ok e ∙ sym (rw (r, o) refl)

-- what is known once the stub's code and the other fields have passed their tests
pub coded : (b : Bond) (r : Result Stub UnknownStub) (m : Result Stub SheetFault) (s : Stub) (Q : UnknownStub → Type 0) (rest : Bool)
    → r ≡ stub_answer b.stub → MatchResult r (λ x. m ≡ Ok x) Q → is_ok m ≡ is_ok r → m ≡ Ok s
    → in_range b ≡ (leb b.stub 3 && rest) → rest ≡ true → (in_range b ≡ true) × (stub_code s ≡ b.stub)
coded b r m s Q rest e h v o i t =
    elim (cases_Bool (leb b.stub 3)) [
      | inl y ↦
          (let a : r ≡ Ok (stub_of b.stub) = e ∙ rw y in
          let k : m ≡ Ok (stub_of b.stub) = MatchResult-at_ok _ _ _ a h in
          let z : s ≡ stub_of b.stub = cc in
          (i ∙ rw (y, t), rw z (stub_code_of b.stub y)))
      | inr n ↦ (let a : r ≡ Err (record { 0 = b.stub }) = e ∙ rw n in absurd (let z : ⊥ = cc in z))
    ]

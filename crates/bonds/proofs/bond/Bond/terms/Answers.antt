use Rattle.std.proofs.Common.{◌≡◌, true, cond, eqb, arith}
use Rattle.std.proofs.lemmas.Bool.Decides.{nat_tests}
use Rattle.bonds.specs.Bonds.{in_order}
use Rattle.bonds.specs.Limits.{limits}
use Rattle.bonds.proofs.SameTerms.{coded, respelled, terms_are, whole_bond}
use Rattle.bonds.proofs.bond.Bond.terms.Goals as goal

pub invariant_of-result : goal.invariant_of-result
invariant_of-result c =
    let b = c.args.self.now in
    let p = coded b _ _ _ _ c.is_in_range.result c.try_from.ensures c.map_err.ensures.cases c.map_err.ensures.variant c.in_ok-stub.was c.is_in_range.ensures (cc) in
    let k : in_order b ≡ true = cc in
    let f = limits b p.0 k in
    record {
      early = f.early;
      rising = f.rising;
      late = f.late;
      some = f.some;
      year = f.year;
      lagged = f.lagged;
      faced = f.faced;
      rated = f.rated;
    }

pub returns : goal.returns
returns c =
    let b = c.args.self.now in
    let p = coded b _ _ _ _ c.is_in_range.result c.try_from.ensures c.map_err.ensures.cases c.map_err.ensures.variant c.in_ok-stub.was c.is_in_range.ensures (cc) in
    let k : in_order b ≡ true = cc in
    let m : cond (eqb b.mark 1) 1 0 ≡ b.mark = grind (arith, nat_tests) in
    let e = respelled b _ _ p.1 m in
    record { is = terms_are b _ e p.0 k; whole = whole_bond b _ e p.0 k }

use Rattle.std.proofs.Common.{◌≡◌, ◌+◌, true, false, ◌∙◌, rules, tests, arith}
use Rattle.std.proofs.lemmas.Iterator.{first_from_Range}
use Rattle.bonds.specs.Rolls.{between, shifted}
use Rattle.bonds.proofs.Rolling.{count_first}
use Rattle.bonds.proofs.terms.Terms.regular_count.Goals as goal

pub returns : goal.returns
returns c =
    let t = c.args.self.now in
    let f = first_from_Range _ _ _ c.find.result (λ i. between t (shifted t (i + 1)) ≡ false) (λ i. between t (shifted t (i + 1)) ≡ true) c.find.ensures.ran
    (λ x q k. grind (arith, tests))
    (λ x q k. (search rules, grind (arith, tests))) in
    c.unwrap_or.ensures ∙ count_first t 100 _ f

use Rattle.bonds.proofs.Shifting.{regular_is}
use Rattle.std.proofs.Common.{rules, tests}
use Rattle.bonds.proofs.terms.Terms.regular.Goals as goal

pub returns : goal.returns
returns c = regular_is c.args.self.now c.args.k _ _ _ (λ x b p. search (rules, tests)) c.shifted_from.ensures c.filter.ensures

use Rattle.bonds.proofs.Rolling.{spanning}
use Rattle.bonds.proofs.terms.Terms.rolls.Goals as goal

pub returns-then-inner-gt-MOST_INNER-clause-spanning : goal.returns-then-inner-gt-MOST_INNER-clause-spanning
returns-then-inner-gt-MOST_INNER-clause-spanning c = spanning c.args.self

pub returns-clause-spanning : goal.returns-clause-spanning
returns-clause-spanning c = spanning c.args.self

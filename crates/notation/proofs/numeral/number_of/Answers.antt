use Rattle.std.proofs.Common.{rules}
use Rattle.notation.proofs.Spelling.{number_exactly}
use Rattle.notation.proofs.numeral.number_of.Goals as goal

pub returns-then-is_plain-clause-exactly : goal.returns-then-is_plain-clause-exactly
returns-then-is_plain-clause-exactly c = number_exactly c.args.text.now _ (search rules)

pub returns-else-is_plain-clause-exactly : goal.returns-else-is_plain-clause-exactly
returns-else-is_plain-clause-exactly c = number_exactly c.args.text.now _ (search rules)

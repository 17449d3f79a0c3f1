use Rattle.std.proofs.Common.{rules}
use Rattle.notation.proofs.DateSpelling.{date_exactly}
use Rattle.notation.proofs.date_text.date_of.Goals as goal

pub returns-in_err-date-clause-exactly : goal.returns-in_err-date-clause-exactly
returns-in_err-date-clause-exactly c = date_exactly c.args.text.now _ (search rules)

pub returns-clause-exactly : goal.returns-clause-exactly
returns-clause-exactly c = date_exactly c.args.text.now _ (search rules)

use Rattle.std.proofs.Common.{rules}
use Rattle.notation.proofs.CallSpelling.{call_exactly}
use Rattle.notation.proofs.fields.entry_of.Goals as goal

pub returns-clause-exactly : goal.returns-clause-exactly
returns-clause-exactly c = call_exactly c.args.line.now _ (search rules)

use Rattle.std.proofs.Common.{arith}
use Rattle.dates.specs.Months.{first_of}
use Rattle.dates.proofs.month.Month.first.Goals as goal

pub returns-clause-is : goal.returns-clause-is
unfolding first_of
returns-clause-is c = grind arith

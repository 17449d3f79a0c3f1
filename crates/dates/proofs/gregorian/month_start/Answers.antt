use Rattle.std.proofs.Common.{arith}
use Rattle.std.proofs.lemmas.Bool.Decides.{nat_tests}
use Rattle.dates.proofs.MonthTables.{start_at}
use Rattle.dates.proofs.gregorian.month_start.Goals as goal

pub returns-clause-is : goal.returns-clause-is
returns-clause-is c = grind (arith, nat_tests, start_at c.args.long c.args.m c.requires)

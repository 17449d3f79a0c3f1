use Rattle.std.proofs.Common.{arith}
use Rattle.std.proofs.lemmas.Bool.Decides.{nat_tests}
use Rattle.dates.proofs.MonthTables.{len_at}
use Rattle.dates.proofs.gregorian.month_len.Goals as goal

pub returns-then-m-eq1 : goal.returns-then-m-eq1
returns-then-m-eq1 c = grind (arith, nat_tests, len_at c.args.long c.args.m c.requires)

pub returns-else-long : goal.returns-else-long
returns-else-long c = grind (arith, nat_tests, len_at c.args.long c.args.m c.requires)

use Rattle.std.proofs.Common.{arith}
use Rattle.std.proofs.lemmas.Bool.Decides.{nat_tests}
use Rattle.dates.proofs.MonthTables.{guessed}
use Rattle.dates.proofs.gregorian.month_of.Goals as goal

pub returns-then-month_start-rest-clause-is : goal.returns-then-month_start-rest-clause-is
returns-then-month_start-rest-clause-is c = grind (arith, nat_tests, guessed c.args.long c.args.rest c.requires)

pub returns-else-m-lt11-clause-is : goal.returns-else-m-lt11-clause-is
returns-else-m-lt11-clause-is c = grind (arith, nat_tests, guessed c.args.long c.args.rest c.requires)

use Rattle.std.proofs.Common.{arith}
use Rattle.dates.proofs.YearCounts.{counted}
use Rattle.dates.proofs.gregorian.new_year.Goals as goal

pub returns : goal.returns
returns c = grind (arith, counted c.args.n c.requires)

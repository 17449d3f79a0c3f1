use Rattle.std.proofs.Common.{arith}
use Rattle.dates.specs.Months.{len_of}
use Rattle.dates.proofs.month.Month.length.Goals as goal

pub returns : goal.returns
unfolding len_of
returns c = grind arith

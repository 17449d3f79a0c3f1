use Rattle.std.proofs.Common.{arith}
use Rattle.dates.proofs.EasterTable.{entries, right, high}
use Rattle.dates.proofs.easter.days_after.Goals as goal

pub returns : goal.returns
unfolding entries
returns c = record { is = right c.args.n c.requires; bound = omega (arith, right c.args.n c.requires, high c.args.n c.requires) }

use Rattle.std.proofs.Common.{arith}
use Rattle.dates.proofs.EasterTable.{on_date}
use Rattle.dates.proofs.easter.sunday.Goals as goal

pub returns : goal.returns
returns c = grind (arith, on_date c.args.n c.requires)

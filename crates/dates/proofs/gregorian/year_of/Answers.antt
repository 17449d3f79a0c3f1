use Rattle.std.proofs.Common.{arith}
use Rattle.dates.proofs.Facts.{guess_high, guess_low, in_year}
use Rattle.dates.proofs.gregorian.year_of.Goals as goal

pub returns-then-new_year-d : goal.returns-then-new_year-d
returns-then-new_year-d c = grind (arith, guess_high c.args.d c.requires (omega arith), in_year c.args.d c.requires)

pub returns-else-new_year-d : goal.returns-else-new_year-d
returns-else-new_year-d c = grind (arith, guess_low c.args.d c.requires (omega arith))

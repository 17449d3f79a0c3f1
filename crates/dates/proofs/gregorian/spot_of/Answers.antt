use Rattle.std.proofs.Common.{◌+◌, arith}
use Rattle.dates.specs.Years.{leap, year_of, month_of, place_of}
use Rattle.dates.proofs.YearCounts.{year_more}
use Rattle.dates.proofs.MonthTables.{whole, whole_high}
use Rattle.dates.proofs.Facts.{in_year, in_month, place_high}
use Rattle.dates.proofs.gregorian.spot_of.Goals as goal

pub overflow_sub-rest : goal.overflow_sub-rest
overflow_sub-rest c = grind (arith, in_year c.args.d c.requires)

pub month_of-month-requires : goal.month_of-month-requires
month_of-month-requires c =
    let long = leap (1900 + year_of c.args.d) in
    let y = in_year c.args.d c.requires in
    grind (arith, y.low, y.high, year_more (year_of c.args.d), whole long, whole_high long)

pub overflow_sub-result : goal.overflow_sub-result
unfolding month_of
overflow_sub-result c = grind (arith, in_month c.args.d c.requires)

pub returns : goal.returns
unfolding month_of place_of
returns c = grind (arith, place_high c.args.d c.requires)

use Rattle.std.proofs.Common.{rules}
use Rattle.dates.proofs.RoundTrip.{day_laws}
use Rattle.dates.proofs.civil_date.CivilDate.day.Goals as goal

pub returns : goal.returns
returns c = day_laws c.args.self _ (search rules)

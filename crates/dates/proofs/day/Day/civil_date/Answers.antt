use Rattle.std.proofs.Common.{rules}
use Rattle.dates.proofs.RoundTrip.{civil_laws}
use Rattle.dates.proofs.day.Day.civil_date.Goals as goal

pub returns : goal.returns
returns c = civil_laws c.args.self _ (search rules)

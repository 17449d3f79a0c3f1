use Rattle.std.proofs.Common.{take}
use Rattle.tables.proofs.Standing.{out_law}
use Rattle.tables.proofs.table.remove.Goals as goal

pub returns-in_default-clause-law : goal.returns-in_default-clause-law
returns-in_default-clause-law g c up = out_law g.R.Keyed.key (take c.args.count c.args.places.now) up c.args.key

pub returns-clause-law : goal.returns-clause-law
returns-clause-law g c up = out_law g.R.Keyed.key (take c.args.count c.args.places.now) up c.args.key

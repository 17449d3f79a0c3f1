use Rattle.std.proofs.Common.{take}
use Rattle.tables.proofs.Standing.{put_law}
use Rattle.tables.proofs.table.insert.Goals as goal

pub returns-then-count-places-clause-law : goal.returns-then-count-places-clause-law
returns-then-count-places-clause-law g c up = put_law g.R.Keyed.key (take c.args.count c.args.places.now) up c.args.record

pub returns-in_default-clause-law : goal.returns-in_default-clause-law
returns-in_default-clause-law g c up = put_law g.R.Keyed.key (take c.args.count c.args.places.now) up c.args.record

pub returns-clause-law : goal.returns-clause-law
returns-clause-law g c up = put_law g.R.Keyed.key (take c.args.count c.args.places.now) up c.args.record

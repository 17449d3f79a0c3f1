use Rattle.std.proofs.Common.{arith}
use Rattle.std.proofs.lemmas.Bool.Decides.{nat_tests}
use Rattle.tables.proofs.Places.{found_is_ok}
use Rattle.tables.proofs.Views.{has_map}
use Rattle.amendments.specs.Meanings.{itself}
use Rattle.amendments.specs.Layers.{day_of}
use Rattle.amendments.specs.LayerViews.{entries_of}
use Rattle.amendments.proofs.layer.calls.AmendmentLayerAmendable.is_entered.Goals as goal

pub returns : goal.returns
returns g c =
    let es = entries_of c.args.self.now in
    let d = c.args.day.0 in
    let found = found_is_ok day_of d es in
    let entered = has_map day_of itself d es in
    grind (arith, nat_tests)

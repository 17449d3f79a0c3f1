use Rattle.std.proofs.Common.{is_ok, ap, ◌∙◌}
use Rattle.tables.specs.Tables.{has}
use Rattle.tables.proofs.Places.{found_is_ok}
use Rattle.sheet.specs.KeptBonds.{place_number}
use Rattle.sheet.proofs.KeptPlaces.{has_bond}
use Rattle.sheet.proofs.sheet.Sheet.is_live.Goals as goal

pub returns : goal.returns
returns g c =
    let s = c.args.self.now in
    c.is_ok.ensures.value ∙ ap is_ok c.find.ensures.is ∙ found_is_ok place_number c.args.number c.live.result.now
    ∙ ap (has place_number c.args.number) c.live.ensures.is ∙ has_bond c.args.number _ s.full

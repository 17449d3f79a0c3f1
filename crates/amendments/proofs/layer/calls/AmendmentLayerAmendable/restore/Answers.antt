use Rattle.std.proofs.Common.{sym, arith}
use Rattle.std.proofs.lemmas.Bool.Decides.{nat_tests}
use Rattle.tables.proofs.Afters.{take_after_remove}
use Rattle.tables.proofs.Views.{has_map}
use Rattle.amendments.specs.Meanings.{itself}
use Rattle.amendments.specs.Layers.{day_of}
use Rattle.amendments.specs.LayerViews.{entries_of}
use Rattle.amendments.proofs.EntryCodes.{meaning_without}
use Rattle.amendments.proofs.layer.calls.AmendmentLayerAmendable.restore.Goals as goal

pub returns-then-not-remove : goal.returns-then-not-remove
returns-then-not-remove g c =
    let entered = has_map day_of itself c.args.day.0 (entries_of c.args.self.now) in
    record { answer = grind (arith, nat_tests); after = grind (arith, nat_tests) }

pub returns : goal.returns
returns g c =
    let s = c.args.self.now in
    let d = c.args.day.0 in
    let entered = has_map day_of itself d (entries_of s) in
    let told = c.if-not-remove.ensures in
    let key = c.from.ensures in
    let m = meaning_without d (entries_of s) (g.K.Calendar.codes s.under) s.layer.number s.risen in
    let t = take_after_remove day_of s.entries s.count d (sym (rw key at told.answer)) in
    record { answer = grind (arith, nat_tests); after = grind (arith, nat_tests) }

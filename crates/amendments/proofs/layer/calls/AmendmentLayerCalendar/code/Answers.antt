use Rattle.std.proofs.Common.{arith}
use Rattle.std.proofs.lemmas.Bool.Decides.{nat_tests}
use Rattle.std.proofs.lemmas.List.{get_or-take}
use Rattle.tables.proofs.Places.{when_found, when_absent}
use Rattle.amendments.specs.Layers.{day_of}
use Rattle.amendments.specs.LayerViews.{entries_of}
use Rattle.amendments.proofs.EntryCodes.{code_held, code_absent}
use Rattle.amendments.proofs.layer.calls.AmendmentLayerCalendar.code.Goals as goal

pub returns-in-Ok : goal.returns-in-Ok
returns-in-Ok g c =
    let s = c.args.self.now in
    let d = c.args.day.0 in
    let z = c.index-self-at.result in
    let w = when_found day_of d c.in-Ok.at (entries_of s) c.in-Ok.ensures.is in
    let there = get_or-take s.count s.entries c.in-Ok.at z c.in-Ok.ensures.bound in
    let held = code_held (entries_of s) (g.K.Calendar.codes s.under d) d z w.0 in
    grind (arith, nat_tests)

pub returns-in-Err : goal.returns-in-Err
returns-in-Err g c =
    let s = c.args.self.now in
    let d = c.args.day.0 in
    let w = when_absent day_of d c.in-Err.field-0 (entries_of s) c.in-Err.ensures.is in
    let absent = code_absent 0 (entries_of s) (g.K.Calendar.codes s.under d) d s.risen w.0 in
    grind (arith, nat_tests)

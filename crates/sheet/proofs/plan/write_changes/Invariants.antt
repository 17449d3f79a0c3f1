use Rattle.std.proofs.Common.{map, length, Some}
use Rattle.changes.specs.Changes.{seen_place}
use Rattle.changes.proofs.Writings.{Written}
use Rattle.sheet.specs.KeptBonds.{kept}
use Rattle.sheet.specs.Notices.{changes}
use Rattle.sheet.proofs.PairedPlaces.{from_place}
use Rattle.sheet.proofs.plan.write_changes.Given as goal

abbrev pub invariant-loop-was : goal.invariant-loop-was
invariant-loop-was g l =
    let before = g.K.Calendar.codes l.turn.before.now in
    let after = g.T.Calendar.codes l.turn.after.now in
    Written (map Some (changes before after (kept l.old) (kept l.new))) (map Some (from_place before after l.old l.new (length l.yielded)))
    (map seen_place l.initial.list) (map seen_place l.list) l.n

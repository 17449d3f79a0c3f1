use Rattle.std.proofs.Common.{◌≡◌, map, drop}
use Rattle.amendments.specs.Meanings.{meaning}
use Rattle.changes.specs.Changes.{seen_place}
use Rattle.sheet.specs.FreshSheets.{opened}
use Rattle.sheet.specs.SheetViews.{seen_sheet}
use Rattle.sheet.specs.RunViews.{seen_outcome}
use Rattle.sheet.proofs.Running.{OnTheWay}
use Rattle.sheet.proofs.run.make_calls.Given as goal

abbrev pub invariant-loop-call : goal.invariant-loop-call
invariant-loop-call g l =
    let tries = g.C.Convention.tries l.fn.convention in
    let m = meaning (g.P.Calendar.codes l.fn.calendar) (g.P.Amendable.rest l.fn.calendar) in
    OnTheWay tries (opened m) (map seen_place l.initial.list) l.fn.calls
    (map seen_outcome l.outcomes.items) (seen_sheet l.sheet) (map seen_place l.list) (drop l.call-index l.fn.calls)
    × (l.sheet.convention ≡ l.fn.convention)

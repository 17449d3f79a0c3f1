use Rattle.std.proofs.Common.{◌≡◌, ℕ, List, [], map, drop, subst}
use Rattle.std.proofs.lemmas.List.{drop_all}
use Rattle.amendments.specs.Meanings.{Meaning, meaning}
use Rattle.changes.specs.Changes.{seen_place}
use Rattle.sheet.specs.declared.call.Call.{Call}
use Rattle.sheet.specs.FreshSheets.{opened}
use Rattle.sheet.specs.KeptBonds.{Sound}
use Rattle.sheet.specs.SheetViews.{seen_sheet, kept_by}
use Rattle.sheet.specs.RunViews.{seen_outcome}
use Rattle.sheet.proofs.Running.{OnTheWay, at_end}
use Rattle.sheet.proofs.NeverDrift.{never_drifts}
use Rattle.sheet.proofs.run.make_calls.Goals as goal

pub returns : goal.returns
returns g c =
    let tries : ℕ → List ℕ = g.C.Convention.tries c.args.convention in
    let m : Meaning = meaning (g.P.Calendar.codes c.args.calendar) (g.P.Amendable.rest c.args.calendar) in
    let s = c.loop-call.sheet in
    let brought = map seen_place c.args.list.now in
    let told = map seen_outcome c.loop-call.outcomes.items in
    let after = map seen_place c.loop-call.list in
    let now : Meaning = meaning (g.P.Calendar.codes s.calendar) (g.P.Amendable.rest s.calendar) in
    let none : ◌≡◌ {A = List Call} (drop c.loop-call.call-index c.args.calls.now) [] = drop_all c.loop-call.call-index c.args.calls.now c.loop-call-test.false in
    let end = at_end tries (opened m) brought c.args.calls.now told (seen_sheet s) after (subst (λ (rest : List Call). OnTheWay tries (opened m) brought c.args.calls.now told (seen_sheet s) after rest) none c.loop-call.invariant.0) in
    let sound = subst (λ (convention : _). Sound (g.C.Convention.tries convention) now (kept_by s)) c.loop-call.invariant.1 s.fresh in
    record { never_drifts = never_drifts tries (g.met.C.Convention.order c.args.convention) m brought c.args.calls.now told (kept_by s) now after end.0 end.1 sound end.2 }

use Rattle.std.proofs.Common.{ℕ, arith}
use Rattle.generation.specs.Schedules.{seen_schedule}
use Rattle.changes.specs.Changes.{seen_pair}
use Rattle.changes.proofs.Filling.{fill_fits, fill_one, fill_none, fill_end}
use Rattle.changes.proofs.Exactly.{listed_exactly}
use Rattle.changes.proofs.revision.Revision.write.Goals.{in-Some, in_default}
use Rattle.changes.proofs.revision.Revision.write.Goals as goal

pub returns-then-count-list-clause-law : goal.returns-then-count-list-clause-law
returns-then-count-list-clause-law g c =
    listed_exactly (g.K.Calendar.codes c.args.turn.now.before.now) (g.T.Calendar.codes c.args.turn.now.after.now) (seen_schedule c.args.self.now.old.now) (seen_schedule c.args.self.now.new.now)

pub bounds-list-n : goal.bounds-list-n
bounds-list-n g c =
    fill_fits (g.K.Calendar.codes c.args.turn.now.before.now) (g.T.Calendar.codes c.args.turn.now.after.now) (seen_schedule c.args.self.now.old.now) (seen_schedule c.args.self.now.new.now) c.args.list.now
    c.loop-k.k c.loop-k.list c.loop-k.n (omega (arith, c.count-k-end.ensures.is)) c.loop-k.invariant.0 (seen_pair (c.in-Some.was, c.in-Some.becomes)) c.in-Some.ensures

pub loop-k-preserved : goal.loop-k-preserved
loop-k-preserved g c =
    let before : ℕ → ℕ = g.K.Calendar.codes c.args.turn.now.before.now in
    let after : ℕ → ℕ = g.T.Calendar.codes c.args.turn.now.after.now in
    let x = seen_schedule c.args.self.now.old.now in
    let y = seen_schedule c.args.self.now.new.now in
    elim c.match-altered.branch [
      | in-Some w ↦ (
        fill_one before after x y c.args.list.now c.loop-k.k c.loop-k.list c.loop-k.n (omega (arith, c.count-k-end.ensures.is)) c.loop-k.invariant.0
            (seen_pair (w.in-Some.was, w.in-Some.becomes)) w.number.result w.change.result c.match-altered.list c.match-altered.n w.in-Some.ensures
            w.number.ensures w.change.ensures w.list-is w.n-is,
        omega (arith, w.n-is, c.loop-k.invariant.1),
      )
      | in_default w ↦ (
        fill_none before after x y c.args.list.now c.loop-k.k c.loop-k.list c.loop-k.n (omega (arith, c.count-k-end.ensures.is)) c.loop-k.invariant.0 c.match-altered.list c.match-altered.n
            w.in_default.ensures w.list-is w.n-is,
        omega (arith, w.n-is, c.loop-k.invariant.1),
      )
    ]

pub returns : goal.returns
returns g c =
    let before = g.K.Calendar.codes c.args.turn.now.before.now in
    let after = g.T.Calendar.codes c.args.turn.now.after.now in
    let h =
    fill_end before after (seen_schedule c.args.self.now.old.now) (seen_schedule c.args.self.now.new.now) c.args.list.now c.loop-k.k c.loop-k.list c.loop-k.n
    (omega (arith, c.count.ensures.is before after)) (omega (arith, c.count-k-end.ensures.is)) c.loop-k.invariant.0 in
    record { answer = h.0; list = h.1; law = listed_exactly before after (seen_schedule c.args.self.now.old.now) (seen_schedule c.args.self.now.new.now) }

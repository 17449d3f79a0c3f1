use Rattle.std.proofs.Common.{◌+◌, ◌≤◌}
use Rattle.generation.specs.Schedules.{seen_schedule}
use Rattle.changes.proofs.Filling.{Filled}
use Rattle.changes.proofs.revision.Revision.write.Given as goal

abbrev pub invariant-loop-k : goal.invariant-loop-k
invariant-loop-k g l =
    Filled (g.K.Calendar.codes l.turn.before.now) (g.T.Calendar.codes l.turn.after.now) (seen_schedule l.self.old.now) (seen_schedule l.self.new.now) l.initial.list l.k l.list l.n
    × (l.n + 1 ≤ l.k)

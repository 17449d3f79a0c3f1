use Rattle.std.proofs.Common.{map, length}
use Rattle.conventions.specs.Turns.{upward}
use Rattle.calendars.specs.Codes.{good}
use Rattle.generation.specs.Granting.{each_granted}
use Rattle.generation.specs.Retrying.{retried_roll}
use Rattle.generation.specs.Schedules.{seen_schedule}
use Rattle.generation.specs.Views.{number_of}
use Rattle.generation.proofs.InPlace.{Filled}
use Rattle.generation.proofs.schedule.Schedule.retry.Given as goal

abbrev pub invariant-loop-i : goal.invariant-loop-i
invariant-loop-i g l =
    Filled (retried_roll (λ d. good (g.K.Calendar.codes l.adjuster.calendar.now d)) (g.C.Convention.tries l.adjuster.convention.now) (map number_of l.days) (seen_schedule l.self))
    (length (seen_schedule l.self).days) (length (seen_schedule l.self).days)
    (each_granted (retried_roll (λ d. good (g.K.Calendar.codes l.adjuster.calendar.now d)) (g.C.Convention.tries l.adjuster.convention.now) (map number_of l.days) (seen_schedule l.self))
    (upward (length (seen_schedule l.self).days) 0))
    l.i l.kept

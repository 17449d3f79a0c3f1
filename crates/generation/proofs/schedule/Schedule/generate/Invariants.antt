use Rattle.calendars.specs.Codes.{good}
use Rattle.generation.specs.BondRolls.{bond_roll}
use Rattle.generation.specs.Schedules.{all_rolls}
use Rattle.generation.proofs.InPlace.{Filled}
use Rattle.generation.proofs.schedule.Schedule.generate.Given as goal

abbrev pub invariant-loop-i : goal.invariant-loop-i
invariant-loop-i g l =
    Filled (bond_roll (λ d. good (g.K.Calendar.codes l.adjuster.calendar.now d)) (g.C.Convention.tries l.adjuster.convention.now) l.rolls.terms) l.count 100
    (all_rolls (λ d. good (g.K.Calendar.codes l.adjuster.calendar.now d)) (g.C.Convention.tries l.adjuster.convention.now) l.rolls.terms) l.i l.days

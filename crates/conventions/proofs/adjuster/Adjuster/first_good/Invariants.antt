use Rattle.calendars.specs.Codes.{good}
use Rattle.conventions.proofs.Scanning.{Passed}
use Rattle.conventions.proofs.adjuster.Adjuster.first_good.Given as goal

abbrev pub invariant-loop-k : goal.invariant-loop-k
invariant-loop-k g l = Passed (λ d. good (g.K.Calendar.codes l.self.calendar.now d)) (g.C.Convention.tries l.self.convention.now l.u.0) l.k

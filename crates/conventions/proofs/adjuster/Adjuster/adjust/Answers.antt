use Rattle.std.proofs.Common.{sym, ◌∙◌}
use Rattle.calendars.specs.Codes.{good}
use Rattle.conventions.proofs.Adjusting.{adjusted_order}
use Rattle.conventions.proofs.adjuster.Adjuster.adjust.Goals as goal

pub returns-clause-order : goal.returns-clause-order
returns-clause-order g c a v b e =
    adjusted_order (λ d. good (g.K.Calendar.codes c.args.self.now.calendar.now d)) (g.C.Convention.tries c.args.self.now.convention.now)
    (g.met.C.Convention.order c.args.self.now.convention.now _) c.args.u.0 c.in_ok-found.found _ c.in_ok-found.ensures a v b (sym c.ok_or.ensures.value ∙ e)

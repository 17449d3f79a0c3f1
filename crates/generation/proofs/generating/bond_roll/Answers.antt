use Rattle.std.proofs.Common.{ℕ, Bool}
use Rattle.calendars.specs.Codes.{good}
use Rattle.generation.proofs.Ordering.{never_backward}
use Rattle.generation.proofs.generating.bond_roll.Goals as goal

pub returns-in_err-u-clause-order : goal.returns-in_err-u-clause-order
returns-in_err-u-clause-order g c =
    let ok : ℕ → Bool = λ d. good (g.K.Calendar.codes c.args.adjuster.now.calendar.now d) in
    let convention = c.args.adjuster.now.convention.now in
    never_backward ok (g.C.Convention.tries convention) c.args.rolls.now.terms (g.met.C.Convention.order convention ok)

pub returns-clause-order : goal.returns-clause-order
returns-clause-order g c =
    let ok : ℕ → Bool = λ d. good (g.K.Calendar.codes c.args.adjuster.now.calendar.now d) in
    let convention = c.args.adjuster.now.convention.now in
    never_backward ok (g.C.Convention.tries convention) c.args.rolls.now.terms (g.met.C.Convention.order convention ok)

use Rattle.std.proofs.Common.{◌≡◌, ℕ, ◌+◌, Bool, List, [], length, sym, refl, ap, arith}
use Rattle.std.proofs.lemmas.Result.{err_from_is_err_and}
use Rattle.calendars.specs.Codes.{good}
use Rattle.bonds.specs.Rolls.{rolls}
use Rattle.bonds.proofs.Rolling.{rolls_length}
use Rattle.generation.specs.BondRolls.{bond_roll}
use Rattle.generation.specs.Schedules.{scheduled, all_rolls}
use Rattle.generation.specs.Views.{seen_roll}
use Rattle.generation.proofs.Granted.{prefixed_start, granted_more, refused_here}
use Rattle.generation.proofs.InPlace.{filled_more, filled_refused, filled_all}
use Rattle.generation.proofs.FirstFault.{first_fault}
use Rattle.generation.proofs.Nearness.{NearTries, near_tries, generated_near, granted_near}
use Rattle.generation.proofs.schedule.Schedule.generate.Goals as goal

pub returns-in_err-first : goal.returns-in_err-first
returns-in_err-first g c =
    let ok : ℕ → Bool = λ d. good (g.K.Calendar.codes c.args.adjuster.now.calendar.now d) in
    let tries : ℕ → List ℕ = g.C.Convention.tries c.args.adjuster.now.convention.now in
    let t = c.args.rolls.terms in
    let p = err_from_is_err_and c.from_residual.result c.from_residual.ensures.1 in
    record {
      is =
          rw (p.1, p.2)
          (ap (scheduled t)
          (refused_here (bond_roll ok tries t) c.count-count.result 0 [] (all_rolls ok tries t) (prefixed_start (bond_roll ok tries t) _ _ c.count-count.ensures.is) _
          (omega (arith, c.count-count.ensures.bound)) (sym c.in_err-first.ensures)));
      first = first_fault ok tries t;
    }

pub loop-i-init : goal.loop-i-init
loop-i-init g c =
    let ok : ℕ → Bool = λ d. good (g.K.Calendar.codes c.args.adjuster.now.calendar.now d) in
    let tries : ℕ → List ℕ = g.C.Convention.tries c.args.adjuster.now.convention.now in
    let t = c.args.rolls.terms in (
      granted_more (bond_roll ok tries t) c.count-count.result 0 [] (all_rolls ok tries t) (prefixed_start (bond_roll ok tries t) _ _ c.count-count.ensures.is) _
          (omega (arith, c.count-count.ensures.bound)) (sym c.in_ok-first.ensures),
      refl,
    )

pub returns-in_err-days : goal.returns-in_err-days
returns-in_err-days g c =
    let ok : ℕ → Bool = λ d. good (g.K.Calendar.codes c.args.adjuster.now.calendar.now d) in
    let tries : ℕ → List ℕ = g.C.Convention.tries c.args.adjuster.now.convention.now in
    let t = c.args.rolls.terms in
    let p = err_from_is_err_and c.from_residual-in_err-days.result c.from_residual-in_err-days.ensures.1 in
    record {
      is =
          rw (p.1, p.2)
          (ap (scheduled t)
          (filled_refused (bond_roll ok tries t) c.count-count.result 100 (all_rolls ok tries t) c.loop-i.i c.loop-i.days c.loop-i.invariant _ (omega arith) (sym c.in_err-days.ensures)));
      first = first_fault ok tries t;
    }

pub loop-i-preserved : goal.loop-i-preserved
loop-i-preserved g c =
    let ok : ℕ → Bool = λ d. good (g.K.Calendar.codes c.args.adjuster.now.calendar.now d) in
    let tries : ℕ → List ℕ = g.C.Convention.tries c.args.adjuster.now.convention.now in
    let t = c.args.rolls.terms in
    filled_more (bond_roll ok tries t) c.count-count.result 100 (all_rolls ok tries t) c.loop-i.i c.loop-i.days c.loop-i.invariant c.in_ok-days.field-0
    (omega arith) (omega (arith, c.count-count.ensures.bound)) (sym c.in_ok-days.ensures)

pub invariant_of-result-clause-near : goal.invariant_of-result-clause-near
invariant_of-result-clause-near g c =
    let ok : ℕ → Bool = λ d. good (g.K.Calendar.codes c.args.adjuster.now.calendar.now d) in
    let convention = c.args.adjuster.now.convention.now in
    let tries : ℕ → List ℕ = g.C.Convention.tries convention in
    let law = g.met.C.Convention in
    let near : NearTries tries = near_tries tries g.C.Convention.REACH (law.small convention) (law.near convention) in
    let t = c.args.rolls.terms in
    granted_near t (bond_roll ok tries t) (length (rolls t)) c.loop-i.i c.loop-i.days refl (λ i r. generated_near ok tries t i (seen_roll r) near)
    (filled_all (bond_roll ok tries t) c.count-count.result 100 (all_rolls ok tries t) c.loop-i.i c.loop-i.days c.loop-i.invariant _ refl (omega arith))
    (omega (arith, c.loop-i.invariant.1, c.count-count.ensures.bound))

pub returns : goal.returns
returns g c =
    let ok : ℕ → Bool = λ d. good (g.K.Calendar.codes c.args.adjuster.now.calendar.now d) in
    let tries : ℕ → List ℕ = g.C.Convention.tries c.args.adjuster.now.convention.now in
    let t = c.args.rolls.terms in
    let n : c.args.rolls.inner + 2 ≡ c.loop-i.i = (let l = rolls_length t in omega (arith, c.count-count.ensures.is, c.args.rolls.counted)) in
    record {
      is =
          ap (scheduled t)
          (filled_all (bond_roll ok tries t) c.count-count.result 100 (all_rolls ok tries t) c.loop-i.i c.loop-i.days c.loop-i.invariant _ n (omega arith));
      first = first_fault ok tries t;
    }

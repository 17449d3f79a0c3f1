use Rattle.std.proofs.Common.{◌≡◌, ℕ, ◌+◌, ◌≤◌, Bool, List, ◌++◌, map, length, drop, Result, sym, refl, ap, arith, length-append}
use Rattle.std.proofs.lemmas.Result.{err_from_is_err_and}
use Rattle.faults.specs.Refusals.{Refusal}
use Rattle.calendars.specs.Codes.{good}
use Rattle.generation.specs.Rolls.{RollDays}
use Rattle.generation.specs.Retrying.{retried_roll}
use Rattle.generation.specs.Schedules.{seen_schedule, scheduled}
use Rattle.generation.specs.Views.{number_of, seen_roll}
use Rattle.generation.proofs.InPlace.{filled_more, filled_refused, filled_first}
use Rattle.generation.proofs.ScheduleLengths.{seen_length}
use Rattle.generation.proofs.Nearness.{NearTries, near_tries, granted_near, retried_near, seen_near}
use Rattle.generation.proofs.Retried.{retry_suffices}
use Rattle.generation.proofs.schedule.Schedule.retry.Goals as goal

pub returns-in_err-place : goal.returns-in_err-place
returns-in_err-place g c =
    let ok : ℕ → Bool = λ d. good (g.K.Calendar.codes c.args.adjuster.now.calendar.now d) in
    let tries : ℕ → List ℕ = g.C.Convention.tries c.args.adjuster.now.convention.now in
    let ds = map number_of c.args.days.now in
    let x = seen_schedule c.args.self.now in
    let f : ℕ → Result RollDays Refusal = retried_roll ok tries ds x in
    let p = err_from_is_err_and c.from_residual.result c.from_residual.ensures.1 in
    record {
      is =
          rw (p.1, p.2)
          (ap (scheduled x.terms)
          (filled_refused f (length x.days) (length x.days) _ c.loop-i.i c.loop-i.kept c.loop-i.invariant _ (omega (arith, c.loop-i.invariant.1)) (sym c.in_err-place.ensures)));
      suffices = retry_suffices ok tries ds x;
    }

pub loop-i-preserved : goal.loop-i-preserved
loop-i-preserved g c =
    let ok : ℕ → Bool = λ d. good (g.K.Calendar.codes c.args.adjuster.now.calendar.now d) in
    let tries : ℕ → List ℕ = g.C.Convention.tries c.args.adjuster.now.convention.now in
    let x = seen_schedule c.args.self.now in
    let f : ℕ → Result RollDays Refusal = retried_roll ok tries (map number_of c.args.days.now) x in
    filled_more f (length x.days) (length x.days) _ c.loop-i.i c.loop-i.kept c.loop-i.invariant c.in_ok-place.field-0
    (omega (arith, c.loop-i.invariant.1)) (omega (arith, c.loop-i.invariant.1)) (sym c.in_ok-place.ensures)

pub invariant_of-result-clause-near : goal.invariant_of-result-clause-near
invariant_of-result-clause-near g c =
    let ok : ℕ → Bool = λ d. good (g.K.Calendar.codes c.args.adjuster.now.calendar.now d) in
    let convention = c.args.adjuster.now.convention.now in
    let tries : ℕ → List ℕ = g.C.Convention.tries convention in
    let law = g.met.C.Convention in
    let near : NearTries tries = near_tries tries g.C.Convention.REACH (law.small convention) (law.near convention) in
    let ds = map number_of c.args.days.now in
    let s = c.args.self.now in
    let x = seen_schedule s in
    let f : ℕ → Result RollDays Refusal = retried_roll ok tries ds x in
    let k : c.loop-i.i ≤ length x.days = omega (arith, c.loop-i.invariant.1) in
    let rest = drop c.count.result s.days in
    granted_near x.terms f (length x.days) c.loop-i.i (c.loop-i.kept ++ rest) (seen_length s)
    (λ i r l. retried_near ok tries ds x i (seen_roll r) near l (seen_near s i r l))
    (filled_first f (length x.days) (length x.days) _ c.loop-i.i c.loop-i.kept c.loop-i.invariant rest _ refl (omega (arith, c.loop-i.invariant.1)) k)
    (omega (arith, c.loop-i.invariant.1, length-append c.loop-i.kept rest))

pub returns : goal.returns
returns g c =
    let ok : ℕ → Bool = λ d. good (g.K.Calendar.codes c.args.adjuster.now.calendar.now d) in
    let tries : ℕ → List ℕ = g.C.Convention.tries c.args.adjuster.now.convention.now in
    let ds = map number_of c.args.days.now in
    let x = seen_schedule c.args.self.now in
    let f : ℕ → Result RollDays Refusal = retried_roll ok tries ds x in
    let n : c.args.self.now.rolls.inner + 2 ≡ c.loop-i.i = omega (arith, c.count.ensures.is, c.count.ensures.places, c.loop-i.invariant.1) in
    record {
      is = ap (scheduled x.terms) (filled_first f (length x.days) (length x.days) _ c.loop-i.i c.loop-i.kept c.loop-i.invariant _ _ n (omega (arith, c.loop-i.invariant.1)) (omega (arith, c.loop-i.invariant.1)));
      suffices = retry_suffices ok tries ds x;
    }

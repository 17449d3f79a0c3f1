use Rattle.std.proofs.Common.{◌≡◌, List, map, take, drop, ◌++◌, ◌+◌, Ok, Result, sym, refl, ap, ◌∙◌, arith}
use Rattle.std.proofs.lemmas.Result.{err_from_is_err_and}
use Rattle.std.proofs.lemmas.List.{length-take-le, length-append, length-drop, take_at}
use Rattle.faults.specs.Refusals.{Refusal}
use Rattle.calendars.specs.Codes.{good}
use Rattle.generation.specs.Schedules.{Scheduled, seen_schedule}
use Rattle.generation.specs.Retrying.{retried}
use Rattle.generation.specs.Views.{number_of}
use Rattle.bonds.specs.declared.terms.Terms.{Terms}
use Rattle.sheet.specs.KeptBonds.{Place, kept, all_live, place_number}
use Rattle.sheet.proofs.EnteredBonds.{its_terms}
use Rattle.sheet.proofs.PlannedPlaces.{done, none_done, one_done, one_refused, all_done, live_set, numbers_set, none_free}
use Rattle.sheet.proofs.Uncounted.{uncounted}
use Rattle.sheet.proofs.plan.retry_places.Goals.{in-Some+then-counted-gt0+in_ok-schedule, in-Some+else-counted-gt0, in_default}
use Rattle.sheet.proofs.plan.retry_places.Goals as goal

pub loop-place-init : goal.loop-place-init
loop-place-init g c = (none_done _ _, c.requires.live, refl)

pub returns-in_err-schedule-clause-is : goal.returns-in_err-schedule-clause-is
returns-in_err-schedule-clause-is g c =
    let f : Scheduled → Result Scheduled Refusal = retried (λ d. good (g.K.Calendar.codes c.args.adjuster.now.calendar.now d)) (g.C.Convention.tries c.args.adjuster.now.convention.now) (map number_of c.args.days.now) in
    let p = err_from_is_err_and c.from_residual.result c.from_residual.ensures.1 in
    rw (p.1, p.2) (one_refused f c.loop-place.live c.loop-place.place-index (omega arith) c.place-item.result c.in-Some.schedule c.in-Some.is _ (sym c.in_err-schedule.ensures.is) ∙ c.loop-place.invariant.0)

pub loop-place-preserved : goal.loop-place-preserved
loop-place-preserved g c =
    let f : Scheduled → Result Scheduled Refusal = retried (λ d. good (g.K.Calendar.codes c.args.adjuster.now.calendar.now d)) (g.C.Convention.tries c.args.adjuster.now.convention.now) (map number_of c.args.days.now) in
    let ps = c.loop-place.live in
    let i = c.loop-place.place-index in
    let d = c.place-item.result in
    elim c.match-place.branch [
      | in-Some+then-counted-gt0+in_ok-schedule w ↦
          let s = w.in-Some.schedule in
          let t = w.in_ok-schedule.field-0 in
          let own = ap (λ (x : Terms). x.number) (its_terms (seen_schedule s).terms _ (seen_schedule t) (sym w.in_ok-schedule.ensures.is)) in (
            ap (done f (i + 1)) w.live-is ∙ one_done f ps i (omega arith) d s w.in-Some.is t (sym w.in_ok-schedule.ensures.is) ∙ c.loop-place.invariant.0,
            ap all_live w.live-is ∙ live_set ps i t c.loop-place.invariant.1,
            ap (map place_number) w.live-is ∙ numbers_set ps i d t (own ∙ ap place_number (sym w.in-Some.is)) ∙ c.loop-place.invariant.2,
          )
      | in-Some+else-counted-gt0 w ↦
          let s = w.in-Some.schedule in
          let none =
          uncounted (λ d. good (g.K.Calendar.codes c.args.adjuster.now.calendar.now d)) (g.C.Convention.tries c.args.adjuster.now.convention.now) (map number_of c.args.days.now) (seen_schedule s)
          (omega (arith, w.counted.ensures.is, w.if-counted-gt0.false)) in (
            ap (done f (i + 1)) w.live-is ∙ one_done f ps i (omega arith) d s w.in-Some.is s none ∙ c.loop-place.invariant.0,
            ap all_live w.live-is ∙ live_set ps i s c.loop-place.invariant.1,
            ap (map place_number) w.live-is ∙ numbers_set ps i d s (ap place_number (sym w.in-Some.is)) ∙ c.loop-place.invariant.2,
          )
      | in_default w ↦ absurd (none_free ps i d c.loop-place.invariant.1 (omega arith) w.in_default.is)
    ]

pub returns : goal.returns
returns g c =
    let f : Scheduled → Result Scheduled Refusal = retried (λ d. good (g.K.Calendar.codes c.args.adjuster.now.calendar.now d)) (g.C.Convention.tries c.args.adjuster.now.convention.now) (map number_of c.args.days.now) in
    let old = take c.args.count c.args.places in
    let ps = c.loop-place.live in
    let few = length-take-le c.args.count c.args.places (omega (arith, c.requires.few, c.requires.long)) in
    let all : take c.args.count (ps ++ drop c.args.count c.args.places) ≡ ps = take_at ps (drop c.args.count c.args.places) c.args.count (c.loop-place.auto.live ∙ few) in
    record {
      is = ap (λ (qs : List Place). Ok (kept qs)) all ∙ all_done f ps c.loop-place.place-index (omega arith) ∙ c.loop-place.invariant.0;
      same = record { long = length-append ps (drop c.args.count c.args.places) ∙ omega (arith, c.loop-place.auto.live, few, length-drop c.args.count c.args.places, c.requires.few, c.requires.long); live = ap all_live all ∙ c.loop-place.invariant.1; numbers = ap (map place_number) all ∙ c.loop-place.invariant.2 };
    }

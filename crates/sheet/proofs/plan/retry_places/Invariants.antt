use Rattle.std.proofs.Common.{◌≡◌, true, map, take}
use Rattle.calendars.specs.Codes.{good}
use Rattle.generation.specs.Granting.{each_granted}
use Rattle.generation.specs.Retrying.{retried}
use Rattle.generation.specs.Views.{number_of}
use Rattle.sheet.specs.KeptBonds.{kept, all_live, place_number}
use Rattle.sheet.proofs.PlannedPlaces.{done}
use Rattle.sheet.proofs.plan.retry_places.Given as goal

abbrev pub invariant-loop-place : goal.invariant-loop-place
invariant-loop-place g l =
    let f = retried (λ d. good (g.K.Calendar.codes l.adjuster.calendar.now d)) (g.C.Convention.tries l.adjuster.convention.now) (map number_of l.days) in
    let old = take l.count l.fn.places in
    (done f l.place-index l.live ≡ each_granted f (kept old)) × (all_live l.live ≡ true) × (map place_number l.live ≡ map place_number old)

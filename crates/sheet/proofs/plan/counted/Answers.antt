use Rattle.std.proofs.Common.{rules, ℕ, List, map, ◌∙◌, arith}
use Rattle.std.proofs.lemmas.Iterator.{YieldsList-from_map}
use Rattle.std.proofs.lemmas.Iterator.Adapters.{at_most_from_yields_List, fits_from_length}
use Rattle.std.proofs.lemmas.Iterator.Consumers.{YieldsList-at, sum_by_from_yields_List}
use Rattle.generation.specs.declared.schedule.Schedule.{Schedule}
use Rattle.generation.specs.Schedules.{seen_schedule}
use Rattle.generation.specs.Retrying.{counted_in}
use Rattle.generation.specs.Views.{number_of}
use Rattle.sheet.proofs.Totals.{live, few, counted_of, gives_live}
use Rattle.sheet.proofs.plan.counted.Goals as goal

pub sum-requires-clause-fits : goal.sum-requires-clause-fits
sum-requires-clause-fits g c =
    let ps = c.args.places.now in
    let road = YieldsList-at c.map.ensures.source (gives_live _ (λ x j h. (h.0, h.1)) ps (cc) c.flatten.ensures.front c.flatten.ensures.back c.flatten.ensures.done) in
    fits_from_length _ _ 32 _ (at_most_from_yields_List road (omega (arith, few ps))) c.map.ensures.closure (omega arith) (λ x r q k. search rules)

pub returns : goal.returns
returns g c =
    let ps = c.args.places.now in
    let tries : ℕ → List ℕ = g.C.Convention.tries c.args.convention.now in
    let ds = map number_of c.args.days.now in
    let each : Schedule → ℕ = λ s. counted_in tries ds (seen_schedule s) in
    let road = YieldsList-at c.map.ensures.source (gives_live _ (λ x j h. (h.0, h.1)) ps (cc) c.flatten.ensures.front c.flatten.ensures.back c.flatten.ensures.done) in
    sum_by_from_yields_List each (live ps) c.map.result _ c.sum.ensures.ran (YieldsList-from_map _ each road c.map.ensures.closure (λ x r q k. search rules))
    ∙ counted_of tries ds ps

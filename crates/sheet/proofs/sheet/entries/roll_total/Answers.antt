use Rattle.std.proofs.Common.{rules, ◌∙◌, arith}
use Rattle.std.proofs.lemmas.Iterator.{YieldsList-from_map}
use Rattle.std.proofs.lemmas.Iterator.Adapters.{at_most_from_yields_List, fits_from_length}
use Rattle.std.proofs.lemmas.Iterator.Consumers.{YieldsList-at, sum_by_from_yields_List}
use Rattle.sheet.proofs.Totals.{live, size, few, total_of, total_few, gives_live}
use Rattle.sheet.proofs.sheet.entries.roll_total.Goals as goal

pub sum-requires-clause-fits : goal.sum-requires-clause-fits
sum-requires-clause-fits c =
    let ps = c.args.places.now in
    let road = YieldsList-at c.map.ensures.source (gives_live _ (λ x j h. (h.0, h.1)) ps (cc) c.flatten.ensures.front c.flatten.ensures.back c.flatten.ensures.done) in
    fits_from_length _ _ 32 _ (at_most_from_yields_List road (omega (arith, few ps))) c.map.ensures.closure (omega arith) (λ x r q k. search rules)

pub returns : goal.returns
returns c =
    let ps = c.args.places.now in
    let road = YieldsList-at c.map.ensures.source (gives_live _ (λ x j h. (h.0, h.1)) ps (cc) c.flatten.ensures.front c.flatten.ensures.back c.flatten.ensures.done) in
    let sums = sum_by_from_yields_List size (live ps) c.map.result _ c.sum.ensures.ran (YieldsList-from_map _ size road c.map.ensures.closure (λ x r q k. search rules)) in
    record { is = sums ∙ total_of ps; bound = omega (arith, sums, total_few ps, few ps) }

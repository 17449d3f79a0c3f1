use Rattle.std.proofs.Common.{ℕ, Bool, List, map, length, refl, ap, ◌∙◌, arith, rules, tests}
use Rattle.std.proofs.lemmas.Iterator.{YieldsList-from_range}
use Rattle.std.proofs.lemmas.Iterator.Consumers.{YieldsList-from_filter, YieldsList-at, count_from_yields_List}
use Rattle.std.specs.List.{filter}
use Rattle.conventions.specs.Turns.{upward}
use Rattle.generation.specs.Retrying.{counts, how_many}
use Rattle.generation.specs.Schedules.{seen_schedule}
use Rattle.generation.specs.Views.{number_of}
use Rattle.generation.proofs.Numbers.{in_order}
use Rattle.generation.proofs.Retried.{how_many_pass}
use Rattle.generation.proofs.schedule.Schedule.counted.Goals as goal

pub returns-clause-is : goal.returns-clause-is
returns-clause-is g c =
    let test : ℕ → Bool = counts (g.C.Convention.tries c.args.convention.now) (map number_of c.args.days.now) (seen_schedule c.args.self.now) in
    let n = c.count.result in
    count_from_yields_List c.filter-counted.result c.count-2.result c.count-2.ensures.ran
    (YieldsList-from_filter _ test (YieldsList-at c.filter-counted.ensures.source (YieldsList-from_range 0 n n refl (omega arith))) c.filter-counted.ensures.closure (λ x b q k. search (rules, tests)))
    ∙ ap (λ (ns : List ℕ). length (filter test ns)) (in_order n 0)
    ∙ how_many_pass test (upward n 0)
    ∙ ap (λ (m : ℕ). how_many test (upward m 0)) c.count.ensures.is

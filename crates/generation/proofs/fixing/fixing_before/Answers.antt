use Rattle.std.proofs.Common.{◌≡◌, ℕ, Bool, sym, refl, ap, ◌∙◌, arith, rules, tests}
use Rattle.std.proofs.lemmas.Iterator.{YieldsList-from_map}
use Rattle.std.proofs.lemmas.Iterator.Consumers.{nth_from_yields_List, YieldsList-from_filter, YieldsList-at}
use Rattle.std.proofs.lemmas.Iterator.Adapters.{option_map_id}
use Rattle.std.specs.Option.{option_map}
use Rattle.calendars.specs.Codes.{good}
use Rattle.dates.specs.declared.day.Day.{Day}
use Rattle.generation.specs.Rolls.{fixing}
use Rattle.generation.specs.Views.{number_of}
use Rattle.generation.proofs.Fixings.{inclusive, no_lag, before, good_one, listed}
use Rattle.generation.proofs.fixing.fixing_before.Goals as goal

pub returns-in_err-passed : goal.returns-in_err-passed
returns-in_err-passed g c =
    let ok : ℕ → Bool = λ d. good (g.K.Calendar.codes c.args.calendar.now d) in
    let none : c.args.lag ≡ 0 = grind (arith, c.in_err-passed.ensures) in
    rw (c.from_residual.ensures, none) (sym (no_lag ok 60 c.args.adjusted.number))

pub returns : goal.returns
returns g c =
    let ok : ℕ → Bool = λ d. good (g.K.Calendar.codes c.args.calendar.now d) in
    let day : ℕ = c.day-day.result.0 in
    let same : day ≡ c.args.adjusted.number = ap (λ (d : Day). d.0) c.day-day.ensures in
    let found =
    nth_from_yields_List c.nth.result _ c.in_ok-passed.passed c.nth.ensures.ran
    (YieldsList-from_filter _ (good_one ok)
    (YieldsList-at c.filter.ensures.source
    (YieldsList-from_map _ (before day) (YieldsList-at c.map.ensures.source (inclusive 1 60 60 c.new.ensures.start c.new.ensures.end c.new.ensures.exhausted refl)) c.map.ensures.closure (λ x r q k. search (rules, tests))))
    c.filter.ensures.closure (λ x r q k. search (rules, tests))) in
    ap (option_map number_of) (sym (option_map_id c.nth.result) ∙ found)
    ∙ listed ok day (omega (arith, c.args.adjusted.within.1)) 60 c.in_ok-passed.passed c.args.lag (grind (arith, c.in_ok-passed.ensures))
    ∙ ap (λ d. fixing ok d c.args.lag) same

use Rattle.std.proofs.Common.{refl, ◌∙◌, arith}
use Rattle.std.proofs.lemmas.Bool.Decides.{nat_tests}
use Rattle.day_cache.proofs.Afresh.{fill_more, fill_all}
use Rattle.day_cache.proofs.kept_days.KeptDays.new.Goals as goal

pub loop-day-init : goal.loop-day-init
loop-day-init g c = (refl, λ d l. grind (arith, nat_tests))

pub loop-day-preserved : goal.loop-day-preserved
loop-day-preserved g c =
    (c.refresh.ensures.start ∙ c.loop-day.invariant.0, fill_more _ _ (g.P.Calendar.codes c.args.lower.now) c.loop-day.day c.loop-day.invariant.1 c.refresh.ensures.codes)

pub returns : goal.returns
returns g c =
    let low = g.P.Calendar.codes c.args.lower.now in
    let kept = c.loop-day.kept in
    record {
      start = grind (arith, nat_tests);
      faithful = fill_all kept.words kept.start low (λ d l. c.loop-day.invariant.1 d (omega arith));
    }

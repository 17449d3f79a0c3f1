use Rattle.std.proofs.Common.{ap, arith}
use Rattle.std.proofs.lemmas.Bool.Decides.{nat_tests}
use Rattle.amendments.specs.Meanings.{Meaning, meaning}
use Rattle.day_cache.proofs.Afresh.{still_faithful}
use Rattle.day_cache.proofs.day_cache.DayCacheAmendable.close.Goals as goal

pub invariant_of-self-2 : goal.invariant_of-self-2
invariant_of-self-2 g c =
    let s = c.args.self.now in
    let mid = c.close.new.self in
    record { faithful = still_faithful s.kept.words s.kept.start c.args.day.0 _ (g.P.Calendar.codes s.lower) _ (meaning (g.P.Calendar.codes mid) (g.P.Amendable.rest mid)) _ _ _ s.faithful c.close.ensures.after c.refresh.ensures.codes }

pub invariant_of-self : goal.invariant_of-self
invariant_of-self g c =
    let f = c.args.self.now.faithful in
    let answer = c.close.ensures.answer in
    let codes = ap (λ (m : Meaning). m.codes) c.close.ensures.after in record { faithful = grind (arith, nat_tests) }

use Rattle.std.proofs.Common.{arith}
use Rattle.dates.proofs.Asked.{asked_is}
use Rattle.day_cache.proofs.Afresh.{refreshed}
use Rattle.day_cache.proofs.kept_days.KeptDays.refresh.Goals as goal

pub returns-in-Ok-clause-codes : goal.returns-in-Ok-clause-codes
returns-in-Ok-clause-codes g c =
    let s = c.args.self.now in
    let d = c.args.day.0 in
    let low = g.P.Calendar.codes c.args.lower.now in
    let code = asked_is d c.in-Ok.code (low d) c.in-Ok.ensures in
    let small = g.P.Calendar.small c.args.lower.now d in
    refreshed s.words c.keep_code.new.words s.start d c.in-Some.k c.new.result.value low c.in-Some.ensures c.keep_code.ensures (omega arith)

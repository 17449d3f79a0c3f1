use Rattle.amendments.specs.Meanings.{meaning}
use Rattle.notices.proofs.SecondDays.{second_unrefused}
use Rattle.notices.proofs.amending.open_then_close.Goals as goal

pub returns-in_err-close : goal.returns-in_err-close
returns-in_err-close g c =
    let old = c.args.calendar.now in
    let mid = c.open.new.self in
    absurd
    (second_unrefused (meaning (g.P.Calendar.codes old) (g.P.Amendable.rest old)) (meaning (g.P.Calendar.codes mid) (g.P.Amendable.rest mid)) c.args.from c.args.to _ c.requires c.open.ensures.after c.in_err-close.ensures.answer)

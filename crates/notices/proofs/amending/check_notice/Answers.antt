use Rattle.notices.proofs.OtherDays.{notice_law}
use Rattle.notices.proofs.amending.check_notice.Goals as goal

pub returns-in-Declare-clause-law : goal.returns-in-Declare-clause-law
returns-in-Declare-clause-law g c = notice_law _ _ (g.met.P.Amendable.risen c.args.calendar.now)

pub returns-in-Cancel-clause-law : goal.returns-in-Cancel-clause-law
returns-in-Cancel-clause-law g c = notice_law _ _ (g.met.P.Amendable.risen c.args.calendar.now)

pub returns-in-Move-clause-law : goal.returns-in-Move-clause-law
returns-in-Move-clause-law g c = notice_law _ _ (g.met.P.Amendable.risen c.args.calendar.now)

pub returns-in-Withdraw-clause-law : goal.returns-in-Withdraw-clause-law
returns-in-Withdraw-clause-law g c = notice_law _ _ (g.met.P.Amendable.risen c.args.calendar.now)

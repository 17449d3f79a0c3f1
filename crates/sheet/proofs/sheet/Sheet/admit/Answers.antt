use Rattle.std.proofs.Common.{sym, ◌∙◌}
use Rattle.std.proofs.lemmas.Result.{err_from_is_err_and}
use Rattle.sheet.proofs.Admission.{is_live, too_many, no_room, may_stand}
use Rattle.sheet.proofs.sheet.Sheet.admit.Goals as goal

pub returns-then-is_live : goal.returns-then-is_live
returns-then-is_live g c = is_live _ c.args.terms _ (c.from-number.ensures ∙ c.number.ensures) (sym c.is_live.ensures ∙ c.if-is_live.true)

pub returns-in_err-rolls : goal.returns-in_err-rolls
returns-in_err-rolls g c =
    let p = err_from_is_err_and c.from_residual.result c.from_residual.ensures.1 in
    rw (p.1, p.2) (too_many _ c.args.terms _ (c.from-number.ensures ∙ c.number.ensures) (sym c.is_live.ensures ∙ c.if-is_live.false) _ c.in_err-rolls.ensures.is)

pub returns-then-not-has_room : goal.returns-then-not-has_room
returns-then-not-has_room g c =
    no_room _ c.args.terms _ (c.from-number.ensures ∙ c.number.ensures) (sym c.is_live.ensures ∙ c.if-is_live.false) _ c.in_ok-rolls.ensures.is _ c.count.ensures.is
    (sym c.has_room.ensures ∙ c.if-not-has_room.true)

pub returns : goal.returns
returns g c =
    may_stand _ c.args.terms _ (c.from-number.ensures ∙ c.number.ensures) (sym c.is_live.ensures ∙ c.if-is_live.false) _ c.in_ok-rolls.ensures.is _ c.count.ensures.is
    (sym c.has_room.ensures ∙ c.if-not-has_room.false)

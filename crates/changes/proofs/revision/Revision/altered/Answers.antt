use Rattle.std.proofs.Common.{ap, ◌∙◌, rules}
use Rattle.std.specs.Option.{option_map}
use Rattle.generation.specs.Payments.{payment_at}
use Rattle.generation.specs.Schedules.{seen_schedule}
use Rattle.changes.specs.Changes.{seen_pair, altered_payment}
use Rattle.changes.proofs.Differing.{unequal, altered_from}
use Rattle.changes.proofs.revision.Revision.altered.Goals as goal

pub returns-in_err-was : goal.returns-in_err-was
unfolding altered_payment
returns-in_err-was c = search rules

pub returns-in_err-becomes : goal.returns-in_err-becomes
unfolding altered_payment
returns-in_err-becomes c = search rules

pub returns : goal.returns
returns c =
    let x = seen_schedule c.args.self.now.old.now in
    let y = seen_schedule c.args.self.now.new.now in
    ap (option_map seen_pair) c.then_some.ensures
    ∙ unequal c.in_ok-was.was' c.in_ok-becomes.becomes _ c.ne.ensures
    ∙ altered_from x y c.args.k _ _ (c.in_ok-was.ensures ∙ ap (payment_at x) c.from.ensures) (c.in_ok-becomes.ensures ∙ ap (payment_at y) c.from-2.ensures)

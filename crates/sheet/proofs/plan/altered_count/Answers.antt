use Rattle.std.proofs.Common.{◌∷◌, [], length, sym, ap, ◌∙◌, arith}
use Rattle.std.specs.Option.{option_map}
use Rattle.std.proofs.lemmas.Slice.Zip.{zip_turn, zip_end}
use Rattle.std.proofs.lemmas.List.{length-append}
use Rattle.changes.specs.declared.revision.Revision.{Revision}
use Rattle.sheet.proofs.PairedPlaces.{pair_length, pair_held, no_place_left}
use Rattle.sheet.proofs.plan.altered_count.Goals as goal

pub loop-was-preserved-in-Some-revision_of : goal.loop-was-preserved-in-Some-revision_of
loop-was-preserved-in-Some-revision_of c =
    let turn = zip_turn c.args.old.now c.args.new.now c.loop-was.yielded _ _ c.next.new.self _ (cc) (cc) c.loop-was.yielded_by (c.in-Some.was, c.in-Some.becomes) c.in-Some.is c.next.ensures.steps in
    let r = c.in-Some-revision_of.revision in
    let two = sym c.revision_of.ensures ∙ ap (option_map (λ (v : Revision). (v.old.now, v.new.now))) c.in-Some-revision_of.is in
    let long = length-append c.loop-was.yielded ((c.in-Some.was, c.in-Some.becomes) ∷ []) in (
      λ before after.
          (let sum = pair_length before after c.args.old.now c.args.new.now (length c.loop-was.yielded) turn.0 turn.1 _ _ turn.2 turn.3 r.old.now r.new.now two in
          rw long (omega (arith, sum, c.loop-was.invariant.0 before after, c.count-count.ensures.is before after))),
      omega (arith, long, c.loop-was.invariant.1, c.count-count.ensures.bound),
    )

pub loop-was-preserved : goal.loop-was-preserved
loop-was-preserved c =
    let turn = zip_turn c.args.old.now c.args.new.now c.loop-was.yielded _ _ c.next.new.self _ (cc) (cc) c.loop-was.yielded_by (c.in-Some.was, c.in-Some.becomes) c.in-Some.is c.next.ensures.steps in
    let none = sym c.revision_of.ensures ∙ ap (option_map (λ (v : Revision). (v.old.now, v.new.now))) c.in_default.is in
    absurd (pair_held (λ d. 0) (λ d. 0) c.args.old.now c.args.new.now (length c.loop-was.yielded) turn.0 turn.1 _ _ turn.2 turn.3 c.requires.live.0 c.requires.live.1 none)

pub returns-clause-is : goal.returns-clause-is
returns-clause-is c = λ before after.
    let end = zip_end c.args.old.now c.args.new.now c.loop-was.yielded c.into_iter-was-iterator.result c.loop-was.was-iterator c.next.new.self c.next.result (cc) (cc) c.loop-was.yielded_by c.in-None.is c.next.ensures.steps in
    let none = ap length (no_place_left before after c.args.old.now c.args.new.now (length c.loop-was.yielded) (omega (arith, end, c.requires.few.1))) in
    omega (arith, none, c.loop-was.invariant.0 before after)

use Rattle.std.proofs.Common.{◌≤◌, ◌∷◌, [], length, refl, sym, ap, ◌∙◌, arith}
use Rattle.std.specs.Option.{option_map}
use Rattle.std.proofs.lemmas.Slice.Zip.{zip_turn, zip_end}
use Rattle.std.proofs.lemmas.List.{length-append, length-map}
use Rattle.changes.specs.declared.revision.Revision.{Revision}
use Rattle.changes.specs.Changes.{seen_place}
use Rattle.sheet.specs.KeptBonds.{kept}
use Rattle.sheet.specs.Notices.{changes}
use Rattle.sheet.proofs.PairedPlaces.{pair_held}
use Rattle.sheet.proofs.WrittenPairs.{pair_fits, pair_done, all_pairs_done}
use Rattle.sheet.proofs.plan.write_changes.Goals as goal

pub unwrap-n-requires : goal.unwrap-n-requires
unwrap-n-requires g c =
    let before = g.K.Calendar.codes c.args.turn.now.before.now in
    let after = g.T.Calendar.codes c.args.turn.now.after.now in
    let turn = zip_turn c.args.old.now c.args.new.now c.loop-was.yielded _ _ c.next.new.self _ (cc) (cc) c.loop-was.yielded_by (c.in-Some.was, c.in-Some.becomes) c.in-Some.is c.next.ensures.steps in
    let r = c.in-Some-revision_of.revision in
    let two = sym c.revision_of.ensures ∙ ap (option_map (λ (v : Revision). (v.old.now, v.new.now))) c.in-Some-revision_of.is in
    let inside : c.loop-was.n ≤ length c.loop-was.list = omega (arith, c.loop-was.invariant.room, length-map c.loop-was.list seen_place) in
    let some = c.write.ensures.answer ∙ pair_fits before after c.args.old.now c.args.new.now c.args.list.now c.loop-was.list c.loop-was.n (length c.loop-was.yielded) turn.0 turn.1 _ _ turn.2 turn.3 r.old.now r.new.now two
    c.loop-was.invariant inside in
    rw some refl

pub loop-was-preserved-in-Some-revision_of : goal.loop-was-preserved-in-Some-revision_of
loop-was-preserved-in-Some-revision_of g c =
    let before = g.K.Calendar.codes c.args.turn.now.before.now in
    let after = g.T.Calendar.codes c.args.turn.now.after.now in
    let turn = zip_turn c.args.old.now c.args.new.now c.loop-was.yielded _ _ c.next.new.self _ (cc) (cc) c.loop-was.yielded_by (c.in-Some.was, c.in-Some.becomes) c.in-Some.is c.next.ensures.steps in
    let r = c.in-Some-revision_of.revision in
    let two = sym c.revision_of.ensures ∙ ap (option_map (λ (v : Revision). (v.old.now, v.new.now))) c.in-Some-revision_of.is in
    let long = length-append c.loop-was.yielded ((c.in-Some.was, c.in-Some.becomes) ∷ []) in
    let inside : c.loop-was.n ≤ length c.loop-was.list = omega (arith, c.loop-was.invariant.room, length-map c.loop-was.list seen_place) in
    rw long (pair_done before after c.args.old.now c.args.new.now c.args.list.now c.loop-was.list c.loop-was.n (length c.loop-was.yielded) turn.0 turn.1 _ _ turn.2 turn.3 r.old.now r.new.now two c.loop-was.invariant inside
    c.write.new.list c.unwrap-n.result (sym c.unwrap-n.ensures ∙ c.write.ensures.answer) c.write.ensures.list)

pub loop-was-preserved : goal.loop-was-preserved
loop-was-preserved g c =
    let turn = zip_turn c.args.old.now c.args.new.now c.loop-was.yielded _ _ c.next.new.self _ (cc) (cc) c.loop-was.yielded_by (c.in-Some.was, c.in-Some.becomes) c.in-Some.is c.next.ensures.steps in
    let none = sym c.revision_of.ensures ∙ ap (option_map (λ (v : Revision). (v.old.now, v.new.now))) c.in_default.is in
    absurd (pair_held (λ d. 0) (λ d. 0) c.args.old.now c.args.new.now (length c.loop-was.yielded) turn.0 turn.1 _ _ turn.2 turn.3 c.requires.live.0 c.requires.live.1 none)

pub returns : goal.returns
returns g c =
    let before = g.K.Calendar.codes c.args.turn.now.before.now in
    let after = g.T.Calendar.codes c.args.turn.now.after.now in
    let end = zip_end c.args.old.now c.args.new.now c.loop-was.yielded c.into_iter-was-iterator.result c.loop-was.was-iterator c.next.new.self c.next.result (cc) (cc) c.loop-was.yielded_by c.in-None.is c.next.ensures.steps in
    let fits : length (changes before after (kept c.args.old.now) (kept c.args.new.now)) ≤ length c.args.list.now = omega (arith, c.altered_count.ensures.is before after, c.if-altered_count-list.false) in
    let h = all_pairs_done before after c.args.old.now c.args.new.now c.args.list.now c.loop-was.list c.loop-was.n (length c.loop-was.yielded) (omega (arith, end, c.requires.few.1)) fits c.loop-was.invariant in
    record { answer = h.1; list = h.0 }

use Rattle.std.proofs.Common.{ℕ, List, map, Ok, sym, ap, ◌∙◌}
use Rattle.std.proofs.lemmas.Result.{err_from_is_err_and}
use Rattle.calendars.specs.Codes.{good}
use Rattle.amendments.specs.Meanings.{Meaning, meaning}
use Rattle.generation.specs.Granting.{each_granted}
use Rattle.generation.specs.Retrying.{retried}
use Rattle.notices.specs.Notices.{calendar_after}
use Rattle.changes.specs.Changes.{seen_place}
use Rattle.sheet.specs.SheetViews.{kept_by}
use Rattle.sheet.specs.Notices.{Noticed, counted}
use Rattle.sheet.proofs.PlannedNotices.{roll_fails, too_short, all_granted, anew_bonds, anew_sound}
use Rattle.sheet.proofs.sheet.Sheet.plan.Goals as goal

pub returns-in_err-places-clause-answer : goal.returns-in_err-places-clause-answer
returns-in_err-places-clause-answer g c =
    let s = c.args.self.now in
    let m : Meaning = meaning (g.P.Calendar.codes s.calendar) (g.P.Amendable.rest s.calendar) in
    let tries : ℕ → List ℕ = g.C.Convention.tries s.convention in
    let p = err_from_is_err_and c.from_residual-in_err-places.result c.from_residual-in_err-places.ensures.1 in
    let err = c.in_err-places.ensures.is ∙ ap (λ (ds : List ℕ). each_granted (retried (λ (d : ℕ). good ((calendar_after m c.args.notice).codes d)) tries ds) (kept_by s)) c.days-count.ensures.days in
    let fails = roll_fails tries m (kept_by s) s.fresh c.args.notice (map seen_place c.args.list.now) (sym c.in_ok-check_notice.ensures.answer) _ err in
    rw (p.1, p.2) (sym (ap (λ (n : Noticed). n.answer) fails))

pub returns-in_err-places-clause-list : goal.returns-in_err-places-clause-list
returns-in_err-places-clause-list g c =
    let s = c.args.self.now in
    let m : Meaning = meaning (g.P.Calendar.codes s.calendar) (g.P.Amendable.rest s.calendar) in
    let tries : ℕ → List ℕ = g.C.Convention.tries s.convention in
    let err = c.in_err-places.ensures.is ∙ ap (λ (ds : List ℕ). each_granted (retried (λ (d : ℕ). good ((calendar_after m c.args.notice).codes d)) tries ds) (kept_by s)) c.days-count.ensures.days in
    let fails = roll_fails tries m (kept_by s) s.fresh c.args.notice (map seen_place c.args.list.now) (sym c.in_ok-check_notice.ensures.answer) _ err in
    sym (ap (λ (n : Noticed). n.list) fails)

pub returns-in_default : goal.returns-in_default
returns-in_default g c =
    let s = c.args.self.now in
    let m : Meaning = meaning (g.P.Calendar.codes s.calendar) (g.P.Amendable.rest s.calendar) in
    let tries : ℕ → List ℕ = g.C.Convention.tries s.convention in
    let rolls = c.in_ok-places.ensures.is ∙ ap (λ (ds : List ℕ). each_granted (retried (λ (d : ℕ). good ((calendar_after m c.args.notice).codes d)) tries ds) (kept_by s)) c.days-count.ensures.days in
    let short = too_short tries m (kept_by s) s.fresh c.args.notice (map seen_place c.args.list.now) (sym c.in_ok-check_notice.ensures.answer) _ rolls c.in_default.ensures.answer in
    record { answer = sym (ap (λ (n : Noticed). n.answer) short); list = c.in_default.ensures.list ∙ sym (ap (λ (n : Noticed). n.list) short); granted = tt }

pub returns : goal.returns
returns g c =
    let s = c.args.self.now in
    let m : Meaning = meaning (g.P.Calendar.codes s.calendar) (g.P.Amendable.rest s.calendar) in
    let tries : ℕ → List ℕ = g.C.Convention.tries s.convention in
    let rolls = c.in_ok-places.ensures.is ∙ ap (λ (ds : List ℕ). each_granted (retried (λ (d : ℕ). good ((calendar_after m c.args.notice).codes d)) tries ds) (kept_by s)) c.days-count.ensures.days in
    let grants = sym c.in_ok-check_notice.ensures.answer in
    let all = all_granted tries m (kept_by s) s.fresh c.args.notice (map seen_place c.args.list.now) grants _ rolls _ c.in-Some.ensures.answer in
    let many = c.counted-rolls.ensures ∙ ap (λ (ds : List ℕ). counted tries ds (kept_by s)) c.days-count.ensures.days in
    record {
      answer = ap (λ (r : ℕ). Ok (record { rolls = r; changes = c.in-Some.changes })) many ∙ sym (ap (λ (n : Noticed). n.answer) all);
      list = c.in-Some.ensures.list ∙ sym (ap (λ (n : Noticed). n.list) all);
      granted = record {
        grants = grants;
        same = c.in_ok-places.ensures.same;
        bonds = anew_bonds tries m (kept_by s) s.fresh c.args.notice (map seen_place c.args.list.now) grants _ rolls;
        fresh = anew_sound tries m (kept_by s) s.fresh c.args.notice (map seen_place c.args.list.now) grants _ rolls;
      };
    }

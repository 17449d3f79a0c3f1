use Rattle.std.proofs.Common.{ℕ, Ok, List, map, take, sym, ◌∙◌, subst}
use Rattle.amendments.specs.Meanings.{Meaning, meaning}
use Rattle.changes.specs.Changes.{seen_place}
use Rattle.sheet.specs.KeptBonds.{kept, view, Sound}
use Rattle.sheet.specs.SheetViews.{kept_by, seen_sheet}
use Rattle.sheet.proofs.IdleNotices.{idle_sound, idle_noticed}
use Rattle.sheet.proofs.GrantedNotices.{granted_sheet, granted_calendar, still_risen}
use Rattle.sheet.proofs.sheet.Sheet.amend.Goals as goal

pub invariant_of-self : goal.invariant_of-self
invariant_of-self g c =
    let s = c.args.self.now in
    let m : Meaning = meaning (g.P.Calendar.codes s.calendar) (g.P.Amendable.rest s.calendar) in
    let tries : ℕ → List ℕ = g.C.Convention.tries s.convention in
    let none = sym c.counted.ensures ∙ c.if-counted-eq0.true in
    record {
      within = s.within;
      full = s.full;
      risen = s.risen;
      fresh = subst (λ (now : Meaning). Sound tries now (kept_by s)) (sym c.amend.ensures.after) (idle_sound tries m (kept_by s) s.fresh c.args.notice none);
    }

pub returns-then-counted-eq0-clause-step : goal.returns-then-counted-eq0-clause-step
returns-then-counted-eq0-clause-step g c =
    let s = c.args.self.now in
    let m : Meaning = meaning (g.P.Calendar.codes s.calendar) (g.P.Amendable.rest s.calendar) in
    let tries : ℕ → List ℕ = g.C.Convention.tries s.convention in
    let none = sym c.counted.ensures ∙ c.if-counted-eq0.true in
    let grants = sym c.in_ok-amend.ensures.answer in
    let now = granted_calendar m _ c.args.notice grants c.in_ok-amend.ensures.after in
    (λ i. record { sheet = view (now i) (kept_by s); answer = Ok (record { rolls = 0; changes = 0 }); list = map seen_place c.args.list.now })
    ∙ sym (idle_noticed tries m (kept_by s) s.fresh c.args.notice none (map seen_place c.args.list.now) grants)

pub invariant_of-self-2 : goal.invariant_of-self-2
invariant_of-self-2 g c =
    let s = c.args.self.now in
    let m : Meaning = meaning (g.P.Calendar.codes s.calendar) (g.P.Amendable.rest s.calendar) in
    let r = c.in_ok-places.ensures.granted in
    record {
      within = (s.within.0, r.same.long ∙ s.within.1);
      full = r.same.live;
      risen = still_risen s.count s.places c.in_ok-places.field-0.places r.same s.risen;
      fresh = subst (λ (now : Meaning). Sound (g.C.Convention.tries s.convention) now (kept (take s.count c.in_ok-places.field-0.places))) (sym (granted_calendar m _ c.args.notice r.grants c.amend-2.ensures.after)) r.fresh;
    }

pub returns-clause-step : goal.returns-clause-step
returns-clause-step g c =
    let s = c.args.self.now in
    let m : Meaning = meaning (g.P.Calendar.codes s.calendar) (g.P.Amendable.rest s.calendar) in
    let tries : ℕ → List ℕ = g.C.Convention.tries s.convention in
    let r = c.in_ok-places.ensures.granted in
    let sheet = granted_sheet tries (seen_sheet s) c.args.notice (map seen_place c.args.list.now) c.in_ok-places.field-0.counts c.in_ok-places.ensures.answer in
    let now = granted_calendar m _ c.args.notice r.grants c.amend-2.ensures.after in
    λ i. record {
      sheet = ((λ j. record { bonds = r.bonds j; calendar = now j }) ∙ sym sheet) i;
      answer = c.in_ok-places.ensures.answer i;
      list = c.in_ok-places.ensures.list i;
    }

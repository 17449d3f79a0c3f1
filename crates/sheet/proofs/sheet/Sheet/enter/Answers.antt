use Rattle.std.proofs.Common.{◌≡◌, ℕ, ◌+◌, true, ltb, List, length, take, Ok, sym, refl, ◌∙◌, arith, Some}
use Rattle.std.proofs.lemmas.Bool.{false≢true, ltb-true, and_parts}
use Rattle.generation.specs.Schedules.{all_rolls, seen_schedule}
use Rattle.sheet.specs.FreshSheets.{good_days}
use Rattle.amendments.specs.Meanings.{Meaning, meaning}
use Rattle.tables.specs.Tables.{insertable}
use Rattle.sheet.specs.KeptBonds.{kept, place_number, view}
use Rattle.sheet.proofs.EnteredBonds.{its_terms, still_live, still_rising, entered_fresh, still_sound, admitted_fits}
use Rattle.sheet.proofs.sheet.Sheet.enter.Goals as goal

pub returns-then-not-insert : goal.returns-then-not-insert
returns-then-not-insert g c =
    let s = c.args.self.now in
    let m : Meaning = meaning (g.P.Calendar.codes s.calendar) (g.P.Amendable.rest s.calendar) in
    let tries : ℕ → List ℕ = g.C.Convention.tries s.convention in
    let x = c.in_ok-rolls.rolls.terms in
    let own = its_terms x (all_rolls (good_days m) tries x) (seen_schedule c.in_ok-schedule.schedule) (sym c.in_ok-schedule.ensures.is) in
    let fits = admitted_fits s.places s.count c.in_ok-schedule.schedule x _ s.within.1 s.within.0 s.full c.in_ok-rolls.ensures own in
    absurd (false≢true (sym c.if-not-insert.true ∙ c.insert.ensures.answer ∙ fits))

pub invariant_of-self-2 : goal.invariant_of-self-2
invariant_of-self-2 g c =
    let s = c.args.self.now in
    let m : Meaning = meaning (g.P.Calendar.codes s.calendar) (g.P.Amendable.rest s.calendar) in
    let tries : ℕ → List ℕ = g.C.Convention.tries s.convention in
    let x = c.in_ok-schedule.schedule in
    let fits : insertable place_number s.count (Some x) s.places ≡ true = sym c.insert.ensures.answer ∙ c.if-not-insert.false in
    let room = ltb-true s.count (length s.places) (and_parts (ltb s.count (length s.places)) _ fits).0 in
    record {
      within = (omega (arith, s.within.1), omega (arith, c.insert.auto.places, s.within.1));
      full = still_live s.places c.insert.new.places s.count x s.full fits c.insert.ensures.after;
      risen = still_rising s.places c.insert.new.places s.count x s.full fits c.insert.ensures.after s.risen;
      fresh = still_sound s.places c.insert.new.places s.count x s.full fits c.insert.ensures.after tries m _ c.in_ok-schedule.ensures.is s.fresh;
    }

pub returns : goal.returns
returns g c =
    let s = c.args.self.now in
    let m : Meaning = meaning (g.P.Calendar.codes s.calendar) (g.P.Amendable.rest s.calendar) in
    let tries : ℕ → List ℕ = g.C.Convention.tries s.convention in
    let x = c.in_ok-schedule.schedule in
    let fits : insertable place_number s.count (Some x) s.places ≡ true = sym c.insert.ensures.answer ∙ c.if-not-insert.false in
    record {
      step =
          (λ i. record { sheet = view m (kept (take (s.count + 1) c.insert.new.places)); answer = Ok (c.count.ensures.is i) })
          ∙ entered_fresh s.places c.insert.new.places s.count x s.full fits c.insert.ensures.after tries m _ c.in_ok-schedule.ensures.is
          c.args.bond _ c.in_ok-terms.ensures.is c.in_ok-rolls.ensures;
      convention = refl;
    }

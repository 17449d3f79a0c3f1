use Rattle.std.proofs.Common.{◌≡◌, ℕ, ◌≤◌, true, false, List, length, sym, refl, ◌∙◌, arith}
use Rattle.tables.specs.Tables.{held}
use Rattle.amendments.specs.Meanings.{Meaning, meaning}
use Rattle.sheet.specs.KeptBonds.{place_number}
use Rattle.sheet.proofs.RetiredBonds.{live_still, rising_still, retired_fresh, sound_still, places_same, refused_fresh}
use Rattle.sheet.proofs.sheet.Sheet.retire.Goals as goal

pub returns-then-not-remove : goal.returns-then-not-remove
returns-then-not-remove g c =
    let s = c.args.self.now in
    let m : Meaning = meaning (g.P.Calendar.codes s.calendar) (g.P.Amendable.rest s.calendar) in
    let tries : ℕ → List ℕ = g.C.Convention.tries s.convention in
    let miss : held place_number s.count c.args.number s.places ≡ false = sym c.remove.ensures.answer ∙ c.if-not-remove.true in
    let inside : s.count ≤ length s.places = omega (arith, s.within.0, s.within.1) in
    let same = places_same s.places c.remove.new.places s.count c.args.number s.full c.remove.ensures.after inside miss in
    record {
      step = refused_fresh s.places c.remove.new.places s.count c.args.number s.full c.remove.ensures.after inside miss m;
      convention = refl;
    }

pub invariant_of-self-2 : goal.invariant_of-self-2
invariant_of-self-2 g c =
    let s = c.args.self.now in
    let m : Meaning = meaning (g.P.Calendar.codes s.calendar) (g.P.Amendable.rest s.calendar) in
    let tries : ℕ → List ℕ = g.C.Convention.tries s.convention in
    let hit : held place_number s.count c.args.number s.places ≡ true = sym c.remove.ensures.answer ∙ c.if-not-remove.false in
    record {
      within = (omega (arith, s.within.0), omega (arith, c.remove.auto.places, s.within.1));
      full = live_still s.places c.remove.new.places s.count c.args.number s.full c.remove.ensures.after hit;
      risen = rising_still s.places c.remove.new.places s.count c.args.number s.full c.remove.ensures.after hit s.risen;
      fresh = sound_still s.places c.remove.new.places s.count c.args.number s.full c.remove.ensures.after hit tries m s.fresh;
    }

pub returns : goal.returns
returns g c =
    let s = c.args.self.now in
    let m : Meaning = meaning (g.P.Calendar.codes s.calendar) (g.P.Amendable.rest s.calendar) in
    let tries : ℕ → List ℕ = g.C.Convention.tries s.convention in
    let hit : held place_number s.count c.args.number s.places ≡ true = sym c.remove.ensures.answer ∙ c.if-not-remove.false in
    record {
      step = retired_fresh s.places c.remove.new.places s.count c.args.number s.full c.remove.ensures.after hit m;
      convention = refl;
    }

use Rattle.std.proofs.Common.{◌≡◌, ℕ, ◌≤◌, List, length, take, set, get_or, Ok, sym, ap, ◌∙◌, arith, rules}
use Rattle.std.proofs.lemmas.Bool.Decides.{nat_tests}
use Rattle.std.proofs.lemmas.List.{length-map, length-take-le}
use Rattle.tables.specs.Tables.{rising, found, with_record}
use Rattle.tables.proofs.Afters.{found_key, take_set_since, take_after_insert}
use Rattle.tables.proofs.Places.{when_found, when_absent}
use Rattle.tables.proofs.Rises.{rising_with}
use Rattle.tables.proofs.Views.{has_map}
use Rattle.amendments.specs.declared.entered.Entered.{Entered}
use Rattle.amendments.specs.Meanings.{itself}
use Rattle.amendments.specs.Layers.{day_of, layer_meaning}
use Rattle.amendments.specs.LayerViews.{entries_of}
use Rattle.amendments.proofs.EntryCodes.{meaning_with}
use Rattle.amendments.proofs.layer.AmendmentLayer.amend.Goals as goal

-- the code of the entry that was found, written over
altered : (E : List Entered) (n : ℕ) (r z : Entered) (at : ℕ) → n ≤ length E → Ok at ≡ found day_of (day_of r) (take n E) → take n (set E at (record { day = (get_or E at z).day; code = r.code })) ≡ with_record day_of r (take n E)
altered E n r z at inside hit =
    ap (λ d. take n (set E at (record { day = record { 0 = d }; code = r.code }))) (found_key day_of E n (day_of r) at inside hit z)
    ∙ take_set_since day_of E n r at inside hit

pub invariant_of-self : goal.invariant_of-self
invariant_of-self g c =
    let s = c.args.self.now in
    let r : Entered = record { day = c.args.day; code = c.args.code } in
    let e = altered s.entries s.count r c.index-self-at.result c.in-Ok.at (omega arith) c.in-Ok.ensures.is in
    record { within = search rules; risen = ap (rising day_of 0) e ∙ rising_with day_of r 0 (entries_of s) s.risen (omega arith) }

pub returns-in-Ok : goal.returns-in-Ok
returns-in-Ok g c =
    let s = c.args.self.now in
    let es = entries_of s in
    let r : Entered = record { day = c.args.day; code = c.args.code } in
    let under = g.K.Calendar.codes s.under in
    let held = when_found day_of c.args.day.0 c.in-Ok.at es c.in-Ok.ensures.is in
    let entered = has_map day_of itself c.args.day.0 es in
    let e = altered s.entries s.count r c.index-self-at.result c.in-Ok.at (omega arith) c.in-Ok.ensures.is in
    record {
      answer = grind (arith, nat_tests);
      after = ap (λ l. layer_meaning under l s.layer.number) e ∙ meaning_with r es under s.layer.number;
    }

pub returns-then-not-insert-clause-answer : goal.returns-then-not-insert-clause-answer
returns-then-not-insert-clause-answer g c =
    let s = c.args.self.now in
    let es = entries_of s in
    let absent = when_absent day_of c.args.day.0 c.in_default.field-0 es c.in_default.ensures.is in
    let entered = has_map day_of itself c.args.day.0 es in
    let e = length-map es day_of in
    let t = length-take-le s.count s.entries (omega arith) in
    grind (arith, nat_tests)

pub returns-clause-after : goal.returns-clause-after
returns-clause-after g c =
    let s = c.args.self.now in
    let r : Entered = record { day = c.args.day; code = c.args.code } in
    let told = c.if-not-insert.ensures in
    let m = meaning_with r (entries_of s) (g.K.Calendar.codes s.under) s.layer.number in
    let t = take_after_insert day_of s.entries s.count r (sym told.answer) in
    grind (arith, nat_tests)

-- One more schedule in its place: what the sheet becomes, and that it still keeps what generation gives.
use Rattle.std.proofs.Common.{◌≡◌, ℕ, ◌+◌, ◌<◌, ◌≤◌, true, false, not, ltb, List, length, take, Ok, Err, Result, sym, ap, ◌∙◌, arith, Some}
use Rattle.std.proofs.lemmas.List.{length-take-le}
use Rattle.std.proofs.lemmas.Bool.{and_from, lt-ltb}
use Rattle.faults.specs.Refusals.{Refusal}
use Rattle.tables.specs.Tables.{rising, has, insertable, after_insert, with_record}
use Rattle.tables.proofs.Afters.{take_after_insert}
use Rattle.tables.proofs.Rises.{rising_with}
use Rattle.amendments.specs.Meanings.{Meaning}
use Rattle.bonds.specs.declared.bond.Bond.{Bond}
use Rattle.bonds.specs.declared.terms.Terms.{Terms}
use Rattle.bonds.specs.TermsOf.{terms_answer}
use Rattle.generation.specs.declared.schedule.Schedule.{Schedule}
use Rattle.generation.specs.Rolls.{RollDays}
use Rattle.generation.specs.Schedules.{Scheduled, scheduled, all_rolls, schedule_answer, seen_schedule}
use Rattle.sheet.specs.FreshSheets.{After, number, good_days}
use Rattle.sheet.specs.Entries.{admitted, admitted_by, added, entered_by, entered}
use Rattle.sheet.specs.KeptBonds.{Place, kept, all_live, place_number, bonds_of, view, Sound}
use Rattle.sheet.proofs.KeptPlaces.{by_number, kept_with, live_with, bonds_with, length_bonds, has_bond}
use Rattle.sheet.proofs.Admission.{stands}
use Rattle.sheet.proofs.Soundness.{from_each, to_each, each_with}

-- a schedule that was granted has the terms that it was made from
pub its_terms : (t : Terms) (r : Result (List RollDays) Refusal) (x : Scheduled) → scheduled t r ≡ Ok x → x.terms ≡ t
its_terms t (Err e) x p = let z : ◌≡◌ {A = ℕ} 0 1 = cc in absurd (let w : ⊥ = omega arith in w)
its_terms t (Ok days) x p = let z : record { terms = t; days = days } ≡ x = cc in ap (λ (y : Scheduled). y.terms) (sym z)

module _ (E P : List Place) (n : ℕ) (s : Schedule) (live : all_live (take n E) ≡ true)
    (fits : insertable place_number n (Some s) E ≡ true) (after : P ≡ after_insert place_number n (Some s) E) where
  -- the places of the live bonds
  pub places_with : take (n + 1) P ≡ with_record place_number (Some s) (take n E)
  places_with = ap (take (n + 1)) after ∙ take_after_insert place_number E n (Some s) fits

  pub still_live : all_live (take (n + 1) P) ≡ true
  still_live = ap all_live places_with ∙ live_with s (take n E) live

  pub still_rising : rising place_number 0 (take n E) ≡ true → rising place_number 0 (take (n + 1) P) ≡ true
  still_rising up = ap (rising place_number 0) places_with ∙ rising_with place_number (Some s) 0 (take n E) up Prim.Native.Nat.zero-le

  module _ (tries : ℕ → List ℕ) (m : Meaning) (t : Terms) (granted : Ok (seen_schedule s) ≡ schedule_answer (good_days m) tries t) where
    -- the fresh sheet has entered the bond
    pub entered_fresh : (b : Bond) (u : Terms) → Ok u ≡ terms_answer b → Ok t ≡ admitted (bonds_of (kept (take n E))) u
        → ◌≡◌ {A = After ℕ} (record { sheet = view m (kept (take (n + 1) P)); answer = Ok (length (seen_schedule s).days) }) (entered tries (view m (kept (take n E))) b)
    entered_fresh b u e a =
        (λ i. record {
          sheet = record { bonds = (ap (λ (ps : List Place). bonds_of (kept ps)) places_with ∙ bonds_with s (take n E) live) i; calendar = m };
          answer = Ok (length (seen_schedule s).days);
        })
        ∙ ap (added (view m (kept (take n E)))) granted
        ∙ ap (entered_by tries (view m (kept (take n E)))) (a ∙ ap (admitted_by (bonds_of (kept (take n E)))) e)

    -- what is kept is still what generation gives
    pub still_sound : Sound tries m (kept (take n E)) → Sound tries m (kept (take (n + 1) P))
    still_sound sound =
        let f : Terms → Result Scheduled Refusal = schedule_answer (good_days m) tries in
        let source : Scheduled → Terms = λ x. x.terms in
        let own : f (seen_schedule s).terms ≡ Ok (seen_schedule s) =
        ap f (its_terms t (all_rolls (good_days m) tries t) (seen_schedule s) (sym granted)) ∙ sym granted in
        let k : kept (take (n + 1) P) ≡ with_record by_number (seen_schedule s) (kept (take n E)) = ap kept places_with ∙ kept_with s (take n E) live in
        rw k (from_each f source _ (each_with f source by_number (seen_schedule s) (kept (take n E)) own (to_each f source (kept (take n E)) sound)))

-- an admitted bond fits
pub admitted_fits : (E : List Place) (n : ℕ) (s : Schedule) (t u : Terms) → length E ≡ 32 → n ≤ 32 → all_live (take n E) ≡ true
    → Ok t ≡ admitted (bonds_of (kept (take n E))) u → (seen_schedule s).terms ≡ t → insertable place_number n (Some s) E ≡ true
admitted_fits E n s t u long few live a own =
    let w = stands (bonds_of (kept (take n E))) u t a in
    let l = length-take-le n E (omega arith) in
    let k = length_bonds (take n E) live in
    let free : n < length E = omega (arith, w.1.place) in
    let absent : has place_number (place_number (Some s)) (take n E) ≡ false =
    has_bond (place_number (Some s)) (take n E) live ∙ ap (λ (x : Terms). has number (number x) (bonds_of (kept (take n E)))) (own ∙ w.0) ∙ w.1.absent in
    and_from (ltb n (length E)) _ (lt-ltb n (length E) free) (ap not absent)

-- One schedule less: what the sheet becomes, and that it still keeps what generation gives.
use Rattle.std.proofs.Common.{◌≡◌, ℕ, ◌-◌, ◌≤◌, Bool, true, false, cond, ◌&&◌, leb, List, [], ◌∷◌, length, take, Ok, Result, sym, ap, ◌∙◌}
use Rattle.std.proofs.lemmas.Bool.{and_parts, le-leb}
use Rattle.faults.specs.Refusals.{Refusal, naming}
use Rattle.tables.specs.Tables.{rising, has, held, after_remove, without}
use Rattle.tables.proofs.Afters.{take_after_remove, not_removed}
use Rattle.tables.proofs.Rises.{rising_without}
use Rattle.amendments.specs.Meanings.{Meaning}
use Rattle.bonds.specs.declared.terms.Terms.{Terms}
use Rattle.generation.specs.Schedules.{Scheduled, schedule_answer}
use Rattle.sheet.specs.FreshSheets.{After, refused, number, good_days}
use Rattle.sheet.specs.Entries.{retired}
use Rattle.sheet.specs.KeptBonds.{Place, kept, all_live, place_number, bonds_of, view, Sound}
use Rattle.sheet.proofs.KeptPlaces.{by_number, kept_without, live_without, bonds_without, has_bond}
use Rattle.sheet.proofs.Soundness.{from_each, to_each, each_without}

module _ (E P : List Place) (n k : ℕ) (live : all_live (take n E) ≡ true) (after : P ≡ after_remove place_number n k E) where
  module _ (hit : held place_number n k E ≡ true) where
    -- the places of the live bonds
    pub places_without : take (n - 1) P ≡ without place_number k (take n E)
    places_without = ap (take (n - 1)) after ∙ take_after_remove place_number E n k hit

    pub live_still : all_live (take (n - 1) P) ≡ true
    live_still = ap all_live places_without ∙ live_without k (take n E) live

    pub rising_still : rising place_number 0 (take n E) ≡ true → rising place_number 0 (take (n - 1) P) ≡ true
    rising_still up = ap (rising place_number 0) places_without ∙ rising_without place_number k 0 (take n E) up

    -- the fresh sheet has retired the bond
    pub retired_fresh : (m : Meaning) → ◌≡◌ {A = After (Unit {0})} (record { sheet = view m (kept (take (n - 1) P)); answer = Ok tt }) (retired (view m (kept (take n E))) k)
    unfolding retired
    retired_fresh m =
        let there : has number k (bonds_of (kept (take n E))) ≡ true = sym (has_bond k (take n E) live) ∙ (and_parts (leb n (length E)) (has place_number k (take n E)) hit).1 in
        (λ i. record {
          sheet = record { bonds = (ap (λ (ps : List Place). bonds_of (kept ps)) places_without ∙ bonds_without k (take n E) live) i; calendar = m };
          answer = Ok tt;
        })
        ∙ ap (λ (b : Bool).
        cond b (record { sheet = record { bonds = without number k (bonds_of (kept (take n E))); calendar = m }; answer = Ok tt }) (refused (view m (kept (take n E))) (naming 4 (k ∷ []))))
        (sym there)

    -- what is kept is still what generation gives
    pub sound_still : (tries : ℕ → List ℕ) (m : Meaning) → Sound tries m (kept (take n E)) → Sound tries m (kept (take (n - 1) P))
    sound_still tries m sound =
        let f : Terms → Result Scheduled Refusal = schedule_answer (good_days m) tries in
        let source : Scheduled → Terms = λ x. x.terms in
        let e : kept (take (n - 1) P) ≡ without by_number k (kept (take n E)) = ap kept places_without ∙ kept_without k (take n E) live in
        rw e (from_each f source _ (each_without f source by_number k (kept (take n E)) (to_each f source (kept (take n E)) sound)))

  module _ (inside : n ≤ length E) (miss : held place_number n k E ≡ false) where
    -- nothing has changed
    pub places_same : P ≡ E
    places_same = after ∙ sym (not_removed place_number E n k (sym miss))

    pub refused_fresh : (m : Meaning) → ◌≡◌ {A = After (Unit {0})} (refused (view m (kept (take n P))) (naming 4 (k ∷ []))) (retired (view m (kept (take n E))) k)
    unfolding retired
    refused_fresh m =
        let some : leb n (length E) ≡ true = le-leb n (length E) inside in
        let gone : has number k (bonds_of (kept (take n E))) ≡ false =
        sym (has_bond k (take n E) live) ∙ sym (ap (λ (b : Bool). b && has place_number k (take n E)) some) ∙ miss in
        ap (λ (ps : List Place). refused (view m (kept (take n ps))) (naming 4 (k ∷ []))) places_same
        ∙ ap (λ (b : Bool).
        cond b (record { sheet = record { bonds = without number k (bonds_of (kept (take n E))); calendar = m }; answer = Ok tt }) (refused (view m (kept (take n E))) (naming 4 (k ∷ []))))
        (sym gone)

-- A notice tried on what is kept comes to what the fresh sheet makes of it.
use Rattle.std.proofs.Common.{◌≡◌, ℕ, Bool, true, false, cond, leb, List, [], ◌++◌, map, length, drop, Option, Some, None, Ok, Err, Result, refl, sym, ap, ◌∙◌, arith}
use Rattle.std.proofs.lemmas.List.{length-map}
use Rattle.faults.specs.Refusals.{Refusal, naming}
use Rattle.amendments.specs.Meanings.{Meaning}
use Rattle.generation.specs.Granting.{each_granted}
use Rattle.generation.specs.Schedules.{Scheduled, all_rolls, schedule_answer}
use Rattle.generation.specs.Retrying.{retried}
use Rattle.notices.specs.declared.notice.Notice.{Notice}
use Rattle.notices.specs.Notices.{days_of, calendar_after, calendar_answer}
use Rattle.changes.specs.Changes.{Altered, written, written_count}
use Rattle.sheet.specs.FreshSheets.{good_days, schedules}
use Rattle.sheet.specs.KeptBonds.{bonds_of, view, Sound}
use Rattle.sheet.specs.Notices.{not_noticed, noticed, noticed_by, regenerated, counted, changes}
use Rattle.sheet.proofs.EnteredBonds.{its_terms}
use Rattle.sheet.proofs.Simulation.{retried_all}
use Rattle.sheet.proofs.StandingSchedules.{their_bonds}
use Rattle.sheet.proofs.OtherRolls.{same_but_for}

-- a list that is written or not, as it has room
module _ (found : List Altered) (list : List (Option Altered)) where
  room : leb (length (map {B = Option Altered} Some found)) (length list) ≡ leb (length found) (length list)
  room = ap (λ (n : ℕ). leb n (length list)) (length-map found Some)

  pub no_room : None ≡ written_count (map Some found) list → (leb (length found) (length list) ≡ false) × (written (map Some found) list ≡ list)
  no_room e = go (leb (length (map {B = Option Altered} Some found)) (length list)) refl e
    where
      go : (b : Bool) → leb (length (map {B = Option Altered} Some found)) (length list) ≡ b → None ≡ cond b (Some (length (map {B = Option Altered} Some found))) None
          → (leb (length found) (length list) ≡ false) × (written (map Some found) list ≡ list)
      go true h e = let z : ◌≡◌ {A = ℕ} 0 1 = cc in absurd (let w : ⊥ = omega arith in w)
      go false h e = (sym room ∙ h, rw h refl)

  pub with_room : (n : ℕ) → Some n ≡ written_count (map Some found) list
      → (leb (length found) (length list) ≡ true) × (n ≡ length found) × (written (map Some found) list ≡ map Some found ++ drop (length found) list)
  with_room n e = go (leb (length (map {B = Option Altered} Some found)) (length list)) refl e
    where
      go : (b : Bool) → leb (length (map {B = Option Altered} Some found)) (length list) ≡ b → Some n ≡ cond b (Some (length (map {B = Option Altered} Some found))) None
          → (leb (length found) (length list) ≡ true) × (n ≡ length found) × (written (map Some found) list ≡ map Some found ++ drop (length found) list)
      go true h e =
          let m : n ≡ length (map {B = Option Altered} Some found) = cc in
          let l : length (map {B = Option Altered} Some found) ≡ length found = length-map found Some in
          (sym room ∙ h, m ∙ l, rw h (ap (λ (k : ℕ). map Some found ++ drop k list) l))
      go false h e = let z : ◌≡◌ {A = ℕ} 0 1 = cc in absurd (let w : ⊥ = omega arith in w)

module _ (tries : ℕ → List ℕ) (m : Meaning) (xs : List Scheduled) (sound : Sound tries m xs) (notice : Notice) (list : List (Option Altered)) (grants : calendar_answer m notice ≡ Ok tt) where
  -- what is tried anew, bond after bond
  abbrev pub anew : Result (List Scheduled) Refusal
  anew = each_granted (retried (good_days (calendar_after m notice)) tries (days_of notice)) xs

  -- is what is generated afresh
  pub anew_afresh : anew ≡ schedules tries (calendar_after m notice) (bonds_of xs)
  anew_afresh = retried_all tries m (calendar_after m notice) (days_of notice) (same_but_for m notice) xs sound

  -- it has the same bonds
  pub anew_bonds : (ys : List Scheduled) → Ok ys ≡ anew → bonds_of ys ≡ bonds_of xs
  anew_bonds ys f =
      let after = good_days (calendar_after m notice) in
      their_bonds (schedule_answer after tries) (λ t x g. its_terms t (all_rolls after tries t) x g) (bonds_of xs) ys (sym (f ∙ anew_afresh))

  -- and is right for the calendar after the notice
  pub anew_sound : (ys : List Scheduled) → Ok ys ≡ anew → Sound tries (calendar_after m notice) ys
  anew_sound ys f = ap (schedules tries (calendar_after m notice)) (anew_bonds ys f) ∙ sym (f ∙ anew_afresh)

  -- so the fresh sheet goes by it
  by_anew : (r : Result (List Scheduled) Refusal) → r ≡ anew → noticed tries (view m xs) notice list ≡ regenerated tries (view m xs) notice list (Ok xs) r
  by_anew r e =
      ap (noticed_by tries (view m xs) notice list) grants
      ∙ (λ i. regenerated tries (view m xs) notice list (sound i) (sym (e ∙ anew_afresh) i))

  -- a roll fails
  pub roll_fails : (e : Refusal) → Err e ≡ anew → noticed tries (view m xs) notice list ≡ not_noticed (view m xs) list e
  roll_fails e f = by_anew (Err e) f

  module _ (ys : List Scheduled) (f : Ok ys ≡ anew) where
    abbrev pub found : List Altered
    found = changes m.codes (calendar_after m notice).codes xs ys

    by_room : (b : Bool) → leb (length found) (length list) ≡ b → noticed tries (view m xs) notice list
        ≡ cond b (record {
          sheet = record { bonds = bonds_of xs; calendar = calendar_after m notice };
          answer = Ok (record { rolls = counted tries (days_of notice) xs; changes = length found });
          list = map Some found ++ drop (length found) list;
        }) (not_noticed (view m xs) list (naming 30 []))
    by_room b h = by_anew (Ok ys) f ∙ rw h refl

    -- the list is too short
    pub too_short : None ≡ written_count (map Some found) list → noticed tries (view m xs) notice list ≡ not_noticed (view m xs) (written (map Some found) list) (naming 30 [])
    too_short e = let h = no_room found list e in by_room false h.0 ∙ ap (λ (l : List (Option Altered)). not_noticed (view m xs) l (naming 30 [])) (sym h.1)

    -- all is granted
    pub all_granted : (n : ℕ) → Some n ≡ written_count (map Some found) list → noticed tries (view m xs) notice list
        ≡ record { sheet = record { bonds = bonds_of xs; calendar = calendar_after m notice }; answer = Ok (record { rolls = counted tries (days_of notice) xs; changes = n }); list = written (map Some found) list }
    all_granted n e =
        let h = with_room found list n e in
        by_room true h.0
        ∙ (λ i. record { sheet = record { bonds = bonds_of xs; calendar = calendar_after m notice }; answer = Ok (record { rolls = counted tries (days_of notice) xs; changes = sym h.1 i }); list = sym h.2 i })

-- A notice on whose days no roll stands: only the calendar alters.
use Rattle.std.proofs.Common.{◌≡◌, ℕ, true, leb, List, [], length, map, Option, Some, Ok, Err, Result, sym, refl, ap, ◌∙◌, arith}
use Rattle.std.proofs.lemmas.Bool.{le-leb}
use Rattle.faults.specs.Refusals.{Refusal}
use Rattle.amendments.specs.Meanings.{Meaning, if_granted}
use Rattle.generation.specs.Schedules.{Scheduled}
use Rattle.notices.specs.declared.notice.Notice.{Notice}
use Rattle.notices.specs.Notices.{days_of, calendar_after, calendar_answer, after_notice}
use Rattle.changes.specs.Changes.{Altered, written, written_count}
use Rattle.sheet.specs.declared.call.Counts.{Counts}
use Rattle.sheet.specs.FreshSheets.{good_days, schedules}
use Rattle.sheet.specs.KeptBonds.{bonds_of, view, Sound}
use Rattle.sheet.specs.Notices.{Noticed, noticed, counted, changes}
use Rattle.sheet.proofs.Simulation.{retried_all}
use Rattle.sheet.proofs.OtherRolls.{same_but_for}
use Rattle.sheet.proofs.Uncounted.{all_uncounted, no_changes}
use Rattle.sheet.proofs.PlannedNotices.{anew, all_granted}

module _ (tries : ℕ → List ℕ) (m : Meaning) (xs : List Scheduled) (sound : Sound tries m xs) (notice : Notice) (none : counted tries (days_of notice) xs ≡ 0) where
  -- what is kept is right for the calendar as the notice leaves it, granted or refused
  pub idle_sound : Sound tries (after_notice m notice) xs
  idle_sound = go (calendar_answer m notice)
    where
      after : Sound tries (calendar_after m notice) xs
      after =
          sym (retried_all tries m (calendar_after m notice) (days_of notice) (same_but_for m notice) xs sound)
          ∙ all_uncounted (good_days (calendar_after m notice)) tries (days_of notice) xs none

      go : (r : Result (Unit {0}) Refusal) → Sound tries (if_granted r (calendar_after m notice) m) xs
      go (Ok _) = after
      go (Err e) = sound

  -- nothing is listed, and both counts are 0
  pub idle_noticed : (list : List (Option Altered)) → calendar_answer m notice ≡ Ok tt → noticed tries (view m xs) notice list
      ≡ record { sheet = record { bonds = bonds_of xs; calendar = calendar_after m notice }; answer = Ok (record { rolls = 0; changes = 0 }); list = list }
  idle_noticed list grants =
      let same : Ok xs ≡ anew tries m xs sound notice list grants = sym (all_uncounted (good_days (calendar_after m notice)) tries (days_of notice) xs none) in
      let no : changes m.codes (calendar_after m notice).codes xs xs ≡ [] = no_changes m.codes (calendar_after m notice).codes xs in
      let room : leb 0 (length list) ≡ true = le-leb 0 (length list) (omega arith) in
      let count : Some 0 ≡ written_count (map Some (changes m.codes (calendar_after m notice).codes xs xs)) list = rw (no, room) refl in
      let places : written (map Some (changes m.codes (calendar_after m notice).codes xs xs)) list ≡ list = rw (no, room) refl in
      all_granted tries m xs sound notice list grants xs same 0 count
      ∙ (λ i. record { sheet = record { bonds = bonds_of xs; calendar = calendar_after m notice }; answer = Ok (record { rolls = none i; changes = 0 }); list = places i })

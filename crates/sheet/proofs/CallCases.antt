-- What a call on a fresh sheet comes to: a refusal, or what a call of its kind grants.
use Rattle.std.proofs.Common.{◌≡◌, ℕ, leb, List, [], ◌∷◌, map, ◌++◌, length, drop, Option, Some, Ok, Err, Result, refl, ap, ◌∙◌}
use Rattle.std.proofs.lemmas.Bool.{cond_both}
use Rattle.faults.specs.Refusals.{Refusal, naming}
use Rattle.tables.specs.Tables.{has, with_record, without}
use Rattle.bonds.specs.declared.terms.Terms.{Terms}
use Rattle.bonds.specs.TermsOf.{terms_answer}
use Rattle.generation.specs.Schedules.{Scheduled, all_rolls}
use Rattle.notices.specs.declared.notice.Notice.{Notice}
use Rattle.notices.specs.Notices.{days_of, calendar_after, calendar_answer}
use Rattle.changes.specs.Changes.{Altered}
use Rattle.sheet.specs.declared.call.Call.{Call}
use Rattle.sheet.specs.declared.call.Call.TheVariants.{Enter, Retire, Amend}
use Rattle.sheet.specs.declared.call.Counts.{Counts}
use Rattle.sheet.specs.declared.call.Answer.{Answer}
use Rattle.sheet.specs.declared.call.Answer.TheVariants.{Entered, Retired, Amended}
use Rattle.sheet.specs.FreshSheets.{Fresh, After, number, good_days, schedules}
use Rattle.sheet.specs.Entries.{admitted_by, added, entered_by, retired}
use Rattle.sheet.specs.Notices.{Noticed, listed, regenerated, noticed_by, counted, changes}
use Rattle.sheet.specs.Steps.{Done, unlisted, amended_by, step}
use Rattle.sheet.proofs.EnteredBonds.{its_terms}
use Rattle.sheet.proofs.StandingSchedules.{afresh}

module _ (tries : ℕ → List ℕ) (s : Fresh) where
  -- what a notice leaves of the sheet
  abbrev pub amended_sheet : Notice → Fresh
  amended_sheet notice = record { bonds = s.bonds; calendar = calendar_after s.calendar notice }

  -- the schedules before a notice, and after it
  abbrev pub before : Result (List Scheduled) Refusal
  before = schedules tries s.calendar s.bonds

  abbrev pub after : Notice → Result (List Scheduled) Refusal
  after notice = schedules tries (calendar_after s.calendar notice) s.bonds

  -- the payments that it altered
  abbrev pub altered : Notice → List Scheduled → List Scheduled → List Altered
  altered notice xs ys = changes s.calendar.codes (calendar_after s.calendar notice).codes xs ys

  -- its counts
  abbrev pub counts : Notice → List Scheduled → List Scheduled → Counts
  counts notice xs ys = record { rolls = counted tries (days_of notice) xs; changes = length (altered notice xs ys) }

  module _ (list : List (Option Altered)) where
    -- a refused call
    abbrev pub refusing : Refusal → Done
    refusing e = record { sheet = s; answer = Err e; list = list }

    -- a granted call that writes no list
    abbrev pub rebonded : List Terms → Answer → Done
    rebonded bonds a = record { sheet = record { bonds = bonds; calendar = s.calendar }; answer = Ok a; list = list }

    -- a granted notice, from the schedules before and after it
    abbrev pub granting : Notice → List Scheduled → List Scheduled → Done
    granting notice xs ys =
        record {
          sheet = amended_sheet notice;
          answer = Ok (Amended notice (counts notice xs ys));
          list = map Some (altered notice xs ys) ++ drop (length (altered notice xs ys)) list;
        }

    -- what holds of all these holds of what any call leaves
    pub record Cases (P : Done → Type 0) : Type 0 where
      pub refusal : (e : Refusal) → P (refusing e)
      pub enter : (n : ℕ) (x : Scheduled) → afresh tries s x.terms ≡ Ok x
          → P (rebonded (with_record number x.terms s.bonds) (Entered n (length x.days)))
      pub retire : (n : ℕ) → P (rebonded (without number n s.bonds) (Retired n))
      pub notice : (m : Notice) (xs ys : List Scheduled) → before ≡ Ok xs → after m ≡ Ok ys → P (granting m xs ys)

    module _ (P : Done → Type 0) (c : Cases P) where
      -- a bond is entered, if its schedule is granted
      by_added : (n : ℕ) (t : Terms) (r : Result Scheduled Refusal) → afresh tries s t ≡ r → P (unlisted list (Entered n) (added s r))
      by_added n t (Err e) p = c.refusal e
      by_added n t (Ok x) p = c.enter n x (ap (afresh tries s) (its_terms t (all_rolls (good_days s.calendar) tries t) x p) ∙ p)

      -- and if it may stand beside the others
      by_entered : (n : ℕ) (r : Result Terms Refusal) → P (unlisted list (Entered n) (entered_by tries s r))
      by_entered n (Err e) = c.refusal e
      by_entered n (Ok t) = by_added n t (afresh tries s t) refl

      -- a bond is retired
      by_retired : (n : ℕ) → P (unlisted list (λ _. Retired n) (retired s n))
      unfolding retired
      by_retired n =
          cond_both (has number n s.bonds) _ _ (λ (d : After (Unit {0})). P (unlisted list (λ _. Retired n) d)) (λ _. c.retire n)
          (λ _. c.refusal (naming 4 (n ∷ [])))

      module _ (notice : Notice) where
        -- a notice, if the list has room
        by_listed : (xs ys : List Scheduled) → before ≡ Ok xs → after notice ≡ Ok ys
            → P (amended_by notice (listed s (calendar_after s.calendar notice) list (counted tries (days_of notice) xs) (altered notice xs ys)))
        by_listed xs ys p q =
            cond_both (leb (length (altered notice xs ys)) (length list)) _ _ (λ (d : Noticed). P (amended_by notice d)) (λ _. c.notice notice xs ys p q)
            (λ _. c.refusal (naming 30 []))

        -- if all schedules are granted
        by_regenerated : (old new : Result (List Scheduled) Refusal) → before ≡ old → after notice ≡ new → P (amended_by notice (regenerated tries s notice list old new))
        by_regenerated (Err e) new p q = c.refusal e
        by_regenerated (Ok xs) (Err e) p q = c.refusal e
        by_regenerated (Ok xs) (Ok ys) p q = by_listed xs ys p q

        -- and if the calendar grants it
        by_noticed : (r : Result (Unit {0}) Refusal) → P (amended_by notice (noticed_by tries s notice list r))
        by_noticed (Err e) = c.refusal e
        by_noticed (Ok _) = by_regenerated before (after notice) refl refl

      -- a call of any kind
      pub any_call : (call : Call) → P (step tries s list call)
      any_call (Enter bond) = by_entered bond.number (admitted_by s.bonds (terms_answer bond))
      any_call (Retire n) = by_retired n
      any_call (Amend notice) = by_noticed notice (calendar_answer s.calendar notice)

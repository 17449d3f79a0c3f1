-- What a sheet keeps never drifts from the fresh sheet, whatever is called on it.
use Rattle.std.proofs.Common.{◌≡◌, ℕ, List, Option, Result, sym, ap, ◌∙◌, subst}
use Rattle.faults.specs.Refusals.{Refusal}
use Rattle.amendments.specs.Meanings.{Meaning}
use Rattle.generation.specs.Schedules.{Scheduled}
use Rattle.changes.specs.Changes.{Altered}
use Rattle.sheet.specs.declared.call.Call.{Call}
use Rattle.sheet.specs.FreshSheets.{Fresh, opened}
use Rattle.sheet.specs.KeptBonds.{view, Sound}
use Rattle.sheet.specs.Readings.{payment_by, payment_answer}
use Rattle.sheet.specs.Steps.{Outcome}
use Rattle.sheet.specs.EveryUse.{EachHolds, sheet_after, list_after, outcomes, NeverDrifts}
use Rattle.sheet.proofs.DatesRise.{NeverEarlier}
use Rattle.sheet.proofs.StandingSteps.{opened_stands}
use Rattle.sheet.proofs.EachCall.{each_holds}

module _ (tries : ℕ → List ℕ) (order : NeverEarlier tries) where
  -- from the tellings of the fresh sheet, and from what is kept being that sheet in the end
  pub never_drifts : (m : Meaning) (list : List (Option Altered)) (calls : List Call) (told : List Outcome) (kept : List Scheduled)
      (now : Meaning) (after : List (Option Altered)) → told ≡ outcomes tries (opened m) list calls
      → view now kept ≡ sheet_after tries (opened m) list calls → Sound tries now kept
      → after ≡ list_after tries (opened m) list calls → NeverDrifts tries m list calls told kept now after
  never_drifts m list calls told kept now after as_told same sound listed = record {
    same_outcomes = as_told;
    each_call =
        subst (EachHolds tries (opened m) list calls) (sym as_told)
        (each_holds tries order calls (opened m) list (opened_stands tries m));
    same_bonds = ap (λ (s : Fresh). s.bonds) same;
    same_calendar = ap (λ (s : Fresh). s.calendar) same;
    same_payments = λ n k. sym (ap (λ (r : Result (List Scheduled) Refusal). payment_by r n k) sound) ∙ ap (λ (s : Fresh). payment_answer tries s n k) same;
    same_list = listed;
  }

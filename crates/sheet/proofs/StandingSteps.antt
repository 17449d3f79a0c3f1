-- Whatever is called on a fresh sheet that stands, the sheet after it stands.
use Rattle.std.proofs.Common.{◌≡◌, ℕ, true, List, [], Option, sym, refl, ap, ◌∙◌, arith}
use Rattle.tables.specs.Tables.{rising, with_record, without}
use Rattle.tables.proofs.Rises.{rising_with, rising_without}
use Rattle.tables.proofs.Views.{map_with, map_without}
use Rattle.amendments.specs.Meanings.{Meaning}
use Rattle.bonds.specs.declared.terms.Terms.{Terms}
use Rattle.generation.specs.Granting.{each_granted}
use Rattle.generation.specs.Schedules.{Scheduled}
use Rattle.changes.specs.Changes.{Altered}
use Rattle.sheet.specs.declared.call.Call.{Call}
use Rattle.sheet.specs.FreshSheets.{Fresh, opened, number, schedules}
use Rattle.sheet.specs.KeptBonds.{bonds_of}
use Rattle.sheet.specs.Steps.{step}
use Rattle.sheet.proofs.KeptPlaces.{by_number}
use Rattle.sheet.proofs.Soundness.{EachFresh, from_each, each_with, each_without}
use Rattle.sheet.proofs.FreshStanding.{Standing}
use Rattle.sheet.proofs.StandingSchedules.{afresh, all_bonds, all_fresh}
use Rattle.sheet.proofs.CallCases.{any_call}

-- a sheet without bonds stands
pub opened_stands : (tries : ℕ → List ℕ) (m : Meaning) → Standing tries (opened m)
unfolding each_granted
opened_stands tries m = record { all = []; granted = refl; risen = refl }

-- bonds that rise stand with their schedules, each of which is what generation gives
stands_with : (tries : ℕ → List ℕ) (s : Fresh) (xs : List Scheduled) → EachFresh (afresh tries s) (λ x. x.terms) xs → bonds_of xs ≡ s.bonds
    → rising number 0 s.bonds ≡ true → Standing tries s
stands_with tries s xs fresh own up = record {
  all = xs;
  granted = ap (schedules tries s.calendar) (sym own) ∙ from_each (afresh tries s) (λ x. x.terms) xs fresh;
  risen = up;
}

module _ (tries : ℕ → List ℕ) (s : Fresh) (list : List (Option Altered)) where
  -- after a call of any kind
  pub step_stands : (call : Call) → Standing tries s → Standing tries (step tries s list call).sheet
  step_stands call h =
      let f = afresh tries s in
      let of : Scheduled → Terms = λ x. x.terms in
      let fresh = all_fresh tries s h in
      let own = all_bonds tries s h in
      any_call tries s list (λ d. Standing tries d.sheet) (record {
        refusal = λ e. h;
        enter = λ n x e.
            stands_with tries _ (with_record by_number x h.all) (each_with f of by_number x h.all e fresh)
            (map_with of number x h.all ∙ ap (with_record number x.terms) own) (rising_with number x.terms 0 s.bonds h.risen (omega arith));
        retire = λ n.
            stands_with tries _ (without by_number n h.all) (each_without f of by_number n h.all fresh)
            (map_without of number n h.all ∙ ap (without number n) own) (rising_without number n 0 s.bonds h.risen);
        notice = λ m xs ys p q. record { all = ys; granted = q; risen = h.risen };
      }) call

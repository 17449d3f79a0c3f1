-- What is told of each call holds against the fresh sheet.
use Rattle.std.proofs.Common.{◌≡◌, ℕ, List, [], ◌∷◌, ◌++◌, map, length, take, drop, Option, Some, Ok, Result, sym, refl, ap, ◌∙◌, subst, arith}
use Rattle.std.proofs.lemmas.List.{length-map}
use Rattle.std.proofs.Math.Seq.{take-append_seam, drop-append_seam}
use Rattle.faults.specs.Refusals.{Refusal}
use Rattle.bonds.specs.declared.terms.Terms.{Terms}
use Rattle.generation.specs.Schedules.{Scheduled}
use Rattle.notices.specs.declared.notice.Notice.{Notice}
use Rattle.notices.specs.Notices.{days_of}
use Rattle.changes.specs.Changes.{Altered}
use Rattle.sheet.specs.declared.call.Call.{Call}
use Rattle.sheet.specs.declared.call.Counts.{Counts}
use Rattle.sheet.specs.declared.call.Answer.{Answer}
use Rattle.sheet.specs.declared.call.Answer.TheVariants.{Amended}
use Rattle.sheet.specs.FreshSheets.{Fresh}
use Rattle.sheet.specs.Notices.{counted}
use Rattle.sheet.specs.Steps.{step, told_of}
use Rattle.sheet.specs.EveryUse.{NoticeHolds, CallHolds, EachHolds, outcomes}
use Rattle.sheet.proofs.FreshStanding.{Standing}
use Rattle.sheet.proofs.OtherRolls.{others_stay}
use Rattle.sheet.proofs.DatesRise.{NeverEarlier, dates_in_order}
use Rattle.sheet.proofs.CallCases.{rebonded, amended_sheet, before, after, altered, counts, granting, any_call}
use Rattle.sheet.proofs.StandingSteps.{step_stands}
use Rattle.sheet.proofs.ExactLists.{lists_exactly}
use Rattle.sheet.proofs.NamedLayers.{layers_named}

-- the places that were written from the front
written_front : (found : List Altered) (rest : List (Option Altered)) → take (length found) (map Some found ++ rest) ≡ map Some found
written_front found rest = ap (λ (n : ℕ). take n (map Some found ++ rest)) (sym (length-map found Some)) ∙ take-append_seam (map Some found) rest

-- the places behind them are as they were
left_behind : (found : List Altered) (list : List (Option Altered))
    → drop (length (take (length found) (map Some found ++ drop (length found) list))) (map Some found ++ drop (length found) list)
    ≡ drop (length (take (length found) (map Some found ++ drop (length found) list))) list
left_behind found list =
    let rest = drop (length found) list in
    let front = written_front found rest in
    let n : length (map {B = Option Altered} Some found) ≡ length found = length-map found Some in
    ap (λ (taken : List (Option Altered)). drop (length taken) (map Some found ++ rest)) front ∙ drop-append_seam (map Some found) rest
    ∙ ap (λ (k : ℕ). drop k list) (sym n) ∙ ap (λ (taken : List (Option Altered)). drop (length taken) list) (sym front)

-- an answer is that to one notice, with its counts
one_notice : (tries : ℕ → List ℕ) (s t : Fresh) (places : List (Option Altered)) (m n : Notice) (c k : Counts)
    → ◌≡◌ {A = Result Answer Refusal} (Ok (Amended m c)) (Ok (Amended n k)) → NoticeHolds tries s t m c places → NoticeHolds tries s t n k places
one_notice tries s t places m n c k e h =
    let a : m ≡ n = cc in
    let b : c ≡ k = cc in
    subst (λ (x : Notice). NoticeHolds tries s t x k places) a (subst (λ (x : Counts). NoticeHolds tries s t m x places) b h)

module _ (tries : ℕ → List ℕ) (order : NeverEarlier tries) where
  module _ (s : Fresh) (list : List (Option Altered)) where
    -- a granted call that is no notice
    no_notice : (bonds : List Terms) (a : Answer) → ((m : Notice) (c : Counts) → a ≡ Amended m c → ⊥) → Standing tries (rebonded tries s list bonds a).sheet
        → CallHolds tries s list (rebonded tries s list bonds a) (told_of (rebonded tries s list bonds a))
    no_notice bonds a other stands = record {
      same_answer = refl;
      refusal_alters_nothing = λ e q. absurd (grind arith);
      notice_holds = λ m c q. absurd (other m c (cc));
      beyond_untouched = refl;
      dates_in_order = dates_in_order tries order _ stands;
    }

    -- a granted notice
    granted_notice : (h : Standing tries s) (m : Notice) (xs ys : List Scheduled) → before tries s ≡ Ok xs → after tries s m ≡ Ok ys
        → NoticeHolds tries s (amended_sheet tries s m) m (counts tries s m xs ys) (told_of (granting tries s list m xs ys)).changes
    granted_notice h m xs ys p q = record {
      list = altered tries s m xs ys;
      places_hold_it = written_front (altered tries s m xs ys) (drop (length (altered tries s m xs ys)) list);
      lists_exactly = lists_exactly tries s (amended_sheet tries s m) xs ys refl p q h.risen;
      names_layers = layers_named tries s (amended_sheet tries s m) xs ys refl p q;
      counts_changes = refl;
      counts_rolls = λ zs r. let z : xs ≡ zs = cc in ap (counted tries (days_of m)) z;
      others_stay = others_stay tries s m;
    }

    -- any call
    pub call_holds : (call : Call) → Standing tries s → CallHolds tries s list (step tries s list call) (told_of (step tries s list call))
    call_holds call h =
        any_call tries s list (λ d. Standing tries d.sheet → CallHolds tries s list d (told_of d)) (record {
          refusal = λ e stands. record {
            same_answer = refl;
            refusal_alters_nothing = λ _ _. (refl, refl, refl);
            notice_holds = λ m c q. absurd (grind arith);
            beyond_untouched = refl;
            dates_in_order = dates_in_order tries order s stands;
          };
          enter = λ n x own. no_notice _ _ (λ m c q. (cc));
          retire = λ n. no_notice _ _ (λ m c q. (cc));
          notice = λ m xs ys p q stands. record {
            same_answer = refl;
            refusal_alters_nothing = λ e r. absurd (grind arith);
            notice_holds = λ n c r. one_notice tries s _ _ m n _ c r (granted_notice h m xs ys p q);
            beyond_untouched = left_behind (altered tries s m xs ys) list;
            dates_in_order = dates_in_order tries order _ stands;
          };
        }) call (step_stands tries s list call h)

  -- one call after another
  pub each_holds : (calls : List Call) (s : Fresh) (list : List (Option Altered)) → Standing tries s
      → EachHolds tries s list calls (outcomes tries s list calls)
  each_holds [] s list h = tt
  each_holds (c ∷ cs) s list h = (
    call_holds s list c h,
    each_holds cs (step tries s list c).sheet (step tries s list c).list (step_stands tries s list c h),
  )

-- What a granted notice leaves of a fresh sheet, and of the places that are kept.
use Rattle.std.proofs.Common.{◌≡◌, ℕ, true, List, take, Option, Ok, Result, sym, ap, ◌∙◌, arith}
use Rattle.faults.specs.Refusals.{Refusal}
use Rattle.tables.specs.Tables.{rising}
use Rattle.tables.proofs.Views.{rising_map}
use Rattle.amendments.specs.Meanings.{Meaning, itself, if_granted}
use Rattle.notices.specs.declared.notice.Notice.{Notice}
use Rattle.notices.specs.Notices.{calendar_after, calendar_answer, after_notice}
use Rattle.changes.specs.Changes.{Altered}
use Rattle.sheet.specs.declared.call.Call.TheVariants.{Amend}
use Rattle.sheet.specs.declared.call.Counts.{Counts}
use Rattle.sheet.specs.declared.call.Answer.TheVariants.{Amended}
use Rattle.sheet.specs.FreshSheets.{Fresh}
use Rattle.sheet.specs.Notices.{noticed}
use Rattle.sheet.specs.Steps.{answered}
use Rattle.sheet.specs.KeptBonds.{Place, place_number}
use Rattle.sheet.specs.Plans.{SameBonds}
use Rattle.sheet.proofs.CallCases.{any_call, amended_sheet}

-- the calendar is amended, and the bonds are the same
pub granted_sheet : (tries : ℕ → List ℕ) (s : Fresh) (notice : Notice) (list : List (Option Altered)) (c : Counts) → Ok c ≡ (noticed tries s notice list).answer
    → (noticed tries s notice list).sheet ≡ amended_sheet tries s notice
granted_sheet tries s notice list c e =
    any_call tries s list (λ d. d.answer ≡ Ok (Amended notice c) → d.sheet ≡ amended_sheet tries s notice)
    (record {
      refusal = λ r f. absurd (grind arith);
      enter = λ n x g f. absurd (grind arith);
      retire = λ n f. absurd (grind arith);
      notice = λ m xs ys g h f. (let same : m ≡ notice = cc in ap (amended_sheet tries s) same);
    }) (Amend notice) (ap (answered (Amended notice)) (sym e))

-- a calendar that grants a notice is what the notice makes of it
pub granted_calendar : (m new : Meaning) (notice : Notice) → calendar_answer m notice ≡ Ok tt → new ≡ after_notice m notice → new ≡ calendar_after m notice
granted_calendar m new notice g e = e ∙ ap (λ (r : Result (Unit {0}) Refusal). if_granted r (calendar_after m notice) m) g

-- the same bonds rise by number
pub still_risen : (n : ℕ) (old new : List Place) → SameBonds n old new → rising place_number 0 (take n old) ≡ true → rising place_number 0 (take n new) ≡ true
still_risen n old new same up =
    sym (rising_map place_number itself 0 (take n new)) ∙ ap (rising itself 0) same.numbers ∙ rising_map place_number itself 0 (take n old) ∙ up

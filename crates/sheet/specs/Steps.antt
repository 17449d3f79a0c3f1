-- A call of any kind, and what is told of it.
use Rattle.std.specs.Prelude.{ℕ, List, take, Option, Ok, Err, Result}
use Rattle.std.specs.Result.{result_map_both}
use Rattle.faults.specs.Refusals.{Refusal}
use Rattle.notices.specs.declared.notice.Notice.{Notice}
use Rattle.changes.specs.Changes.{Altered}
use Rattle.sheet.specs.declared.call.Call.{Call}
use Rattle.sheet.specs.declared.call.Call.TheVariants.{Enter, Retire, Amend}
use Rattle.sheet.specs.declared.call.Answer.{Answer}
use Rattle.sheet.specs.declared.call.Answer.TheVariants.{Entered, Retired, Amended}
use Rattle.sheet.specs.FreshSheets.{Fresh, After}
use Rattle.sheet.specs.Entries.{entered, retired}
use Rattle.sheet.specs.Notices.{Noticed, noticed}

-- what a call leaves: the sheet, its answer or refusal, and the list that was brought
pub record Done : Type 0 where
  pub sheet : Fresh
  pub answer : Result Answer Refusal
  pub list : List (Option Altered)

-- an answer told by f; a refusal stays
abbrev pub answered : {A : Type 0} → (A → Answer) → Result A Refusal → Result Answer Refusal
answered f r = result_map_both f (λ (e : Refusal). e) r

-- a call that writes no list
abbrev pub unlisted : {A : Type 0} → List (Option Altered) → (A → Answer) → After A → Done
unlisted list f x = record { sheet = x.sheet; answer = answered f x.answer; list = list }

-- a notice
abbrev pub amended_by : Notice → Noticed → Done
amended_by notice x = record { sheet = x.sheet; answer = answered (Amended notice) x.answer; list = x.list }

-- what the fresh sheet makes of a call with a list
abbrev pub step : (ℕ → List ℕ) → Fresh → List (Option Altered) → Call → Done
step tries s list (Enter bond) = unlisted list (Entered bond.number) (entered tries s bond)
step tries s list (Retire n) = unlisted list (λ _. Retired n) (retired s n)
step tries s list (Amend notice) = amended_by notice (noticed tries s notice list)

-- how many places a call has written
abbrev pub places_written : Result Answer Refusal → ℕ
places_written (Err e) = 0
places_written (Ok (Entered n rolls)) = 0
places_written (Ok (Retired n)) = 0
places_written (Ok (Amended notice counts)) = counts.changes

-- what is told of a call: its answer or refusal, and the places that it wrote
pub record Outcome : Type 0 where
  pub answer : Result Answer Refusal
  pub changes : List (Option Altered)

abbrev pub told_of : Done → Outcome
told_of d = record { answer = d.answer; changes = take (places_written d.answer) d.list }

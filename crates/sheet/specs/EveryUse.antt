-- Every use: any list of calls, one after another, from a sheet without bonds.
use Rattle.std.specs.Prelude.{◌≡◌, ◌≢◌, ◌⊎◌, ℕ, ◌<◌, ◌≤◌, false, List, [], ◌∷◌, map, length, drop, Option, Some, Ok, Err, slice_index, get_or}
use Rattle.faults.specs.Refusals.{Refusal}
use Rattle.amendments.specs.Meanings.{Meaning}
use Rattle.bonds.specs.declared.terms.Terms.{Terms}
use Rattle.bonds.specs.Rolls.{rolls}
use Rattle.generation.specs.Rolls.{RollDays, footing}
use Rattle.generation.specs.BondRolls.{bond_roll}
use Rattle.generation.specs.Retrying.{holds_one}
use Rattle.generation.specs.Schedules.{Scheduled}
use Rattle.generation.specs.Payments.{Due}
use Rattle.notices.specs.declared.notice.Notice.{Notice}
use Rattle.notices.specs.Notices.{days_of}
use Rattle.changes.specs.Changes.{Altered, same_due}
use Rattle.sheet.specs.declared.call.Call.{Call}
use Rattle.sheet.specs.declared.call.Counts.{Counts}
use Rattle.sheet.specs.declared.call.Answer.TheVariants.{Amended}
use Rattle.sheet.specs.FreshSheets.{Fresh, opened, good_days, schedules}
use Rattle.sheet.specs.Readings.{payment_among, payment_answer}
use Rattle.sheet.specs.Notices.{counted}
use Rattle.sheet.specs.KeptBonds.{bonds_of}
use Rattle.sheet.specs.Steps.{Done, step, Outcome, told_of}

-- where the date moved, a layer closes the old date after the notice, or one closed the new date before it, or both
abbrev pub NamesLayer : Altered → Type 0
NamesLayer c = c.old.date ≢ c.new.date → (c.closes_old ≢ 0) ⊎ (c.closed_new ≢ 0)

-- by bond number, then payment number
abbrev pub Before : Altered → Altered → Type 0
Before a b = (a.bond < b.bond) ⊎ ((a.bond ≡ b.bond) × (a.payment < b.payment))

module _ (tries : ℕ → List ℕ) where
  -- a change is a payment that reads differently before a notice (s) and after it (t), with both readings and both codes
  pub record ReadsOtherwise (s t : Fresh) (c : Altered) : Type 0 where
    pub was : payment_answer tries s c.bond c.payment ≡ Ok c.old
    pub becomes : payment_answer tries t c.bond c.payment ≡ Ok c.new
    pub differs : same_due c.old c.new ≡ false
    pub closes_old : c.closes_old ≡ t.calendar.codes c.old.date
    pub closed_new : c.closed_new ≡ s.calendar.codes c.new.date

  -- the payments that altered from s to t, exactly, once, in order
  pub record ListsExactly (s t : Fresh) (list : List Altered) : Type 0 where
    pub only : (i : ℕ) (d : Altered) → i < length list → ReadsOtherwise s t (get_or list i d)
    pub all : (n k : ℕ) (p q : Due) → payment_answer tries s n k ≡ Ok p → payment_answer tries t n k ≡ Ok q → same_due p q ≡ false
        → (i : ℕ) × (i < length list) × ((d : Altered) → ((get_or list i d).bond ≡ n) × ((get_or list i d).payment ≡ k))
    pub once_in_order : (i j : ℕ) (d : Altered) → i < j → j < length list → Before (get_or list i d) (get_or list j d)

  -- a roll whose footing before holds none of the days is after as it was
  abbrev pub OtherRollsStay : List ℕ → Fresh → Fresh → Type 0
  OtherRollsStay days s t = (b : Terms) (i : ℕ) (r : RollDays) → i < length (rolls b) → bond_roll (good_days s.calendar) tries b i ≡ Ok r
      → holds_one (footing (slice_index (rolls b) i) (tries (slice_index (rolls b) i)) r) days ≡ false → bond_roll (good_days t.calendar) tries b i ≡ Ok r

  -- a granted notice: its counts, the places that it wrote, and what it left alone
  pub record NoticeHolds (s t : Fresh) (notice : Notice) (counts : Counts) (places : List (Option Altered)) : Type 0 where
    pub list : List Altered
    pub places_hold_it : places ≡ map Some list
    pub lists_exactly : ListsExactly s t list
    pub names_layers : (i : ℕ) (d : Altered) → i < length list → NamesLayer (get_or list i d)
    pub counts_changes : counts.changes ≡ length list
    pub counts_rolls : (xs : List Scheduled) → schedules tries s.calendar s.bonds ≡ Ok xs → counts.rolls ≡ counted tries (days_of notice) xs
    pub others_stay : OtherRollsStay (days_of notice) s t

  -- no payment of a bond is dated before one with a lower number
  abbrev pub DatesInOrder : Fresh → Type 0
  DatesInOrder s = (n k l : ℕ) (p q : Due) → k ≤ l → payment_answer tries s n k ≡ Ok p → payment_answer tries s n l ≡ Ok q → p.date ≤ q.date

  -- one call: what was told of it, held against the fresh sheet before it (s) and what it makes of the call (d)
  pub record CallHolds (s : Fresh) (list : List (Option Altered)) (d : Done) (told : Outcome) : Type 0 where
    pub same_answer : told.answer ≡ d.answer
    pub refusal_alters_nothing : (e : Refusal) → told.answer ≡ Err e → (d.sheet ≡ s) × (d.list ≡ list) × (told.changes ≡ [])
    pub notice_holds : (notice : Notice) (counts : Counts) → told.answer ≡ Ok (Amended notice counts) → NoticeHolds s d.sheet notice counts told.changes
    pub beyond_untouched : drop (length told.changes) d.list ≡ drop (length told.changes) list
    pub dates_in_order : DatesInOrder d.sheet

  -- each call of a list of calls, and as many tellings
  abbrev pub EachHolds : Fresh → List (Option Altered) → List Call → List Outcome → Type 0
  EachHolds s list [] [] = Unit {0}
  EachHolds s list [] (o ∷ os) = ⊥
  EachHolds s list (c ∷ cs) [] = ⊥
  EachHolds s list (c ∷ cs) (o ∷ os) =
      CallHolds s list (step tries s list c) o × EachHolds (step tries s list c).sheet (step tries s list c).list cs os

  -- the fresh sheet after a list of calls
  abbrev pub sheet_after : Fresh → List (Option Altered) → List Call → Fresh
  sheet_after s list [] = s
  sheet_after s list (c ∷ cs) = sheet_after (step tries s list c).sheet (step tries s list c).list cs

  -- the list after them
  abbrev pub list_after : Fresh → List (Option Altered) → List Call → List (Option Altered)
  list_after s list [] = list
  list_after s list (c ∷ cs) = list_after (step tries s list c).sheet (step tries s list c).list cs

  -- what is told of each call
  abbrev pub outcomes : Fresh → List (Option Altered) → List Call → List Outcome
  outcomes s list [] = []
  outcomes s list (c ∷ cs) = told_of (step tries s list c) ∷ outcomes (step tries s list c).sheet (step tries s list c).list cs

  -- the kept sheet equals the fresh one, whatever was called on it since it was opened over a calendar
  pub record NeverDrifts (opening : Meaning) (list : List (Option Altered)) (calls : List Call) (told : List Outcome) (kept : List Scheduled) (now : Meaning) (after : List (Option Altered)) : Type 0 where
    pub same_outcomes : told ≡ outcomes (opened opening) list calls
    pub each_call : EachHolds (opened opening) list calls told
    pub same_bonds : bonds_of kept ≡ (sheet_after (opened opening) list calls).bonds
    pub same_calendar : now ≡ (sheet_after (opened opening) list calls).calendar
    pub same_payments : (n k : ℕ) → payment_among kept n k ≡ payment_answer tries (sheet_after (opened opening) list calls) n k
    pub same_list : after ≡ list_after (opened opening) list calls

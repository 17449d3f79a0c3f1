-- The four notices: what the calendar refuses of them, and what they do to it.
use Rattle.std.specs.Prelude.{ℕ, ◌+◌, ◌≤◌, cond, List, [], ◌∷◌, length, Ok, Result, ◌==◌, nat_le}
use Rattle.std.proofs.lemmas.Bool.{cond_both}
use Rattle.faults.specs.Refusals.{Refusal, refuse}
use Rattle.calendars.specs.Codes.{good}
use Rattle.amendments.specs.Meanings.{Meaning, is_entered, recoded, amended, restored, if_granted}
use Rattle.notices.specs.declared.notice.Notice.{Notice}
use Rattle.notices.specs.declared.notice.Notice.TheVariants.{Declare, Cancel, Move, Withdraw}

-- the days that a notice amends
abbrev pub days_of : Notice → List ℕ
days_of (Declare d) = d.0 ∷ []
days_of (Cancel d) = d.0 ∷ []
days_of (Move from to) = from.0 ∷ to.0 ∷ []
days_of (Withdraw d) = d.0 ∷ []

-- the calendar after it: a declared day is closed by the calendar's own number, a cancelled one opened, a move opens
-- its first day and then closes its second, a withdrawn day gets back the code under it
abbrev pub calendar_after : Meaning → Notice → Meaning
calendar_after m (Declare d) = amended m d.0 m.rest.number
calendar_after m (Cancel d) = amended m d.0 0
calendar_after m (Move from to) = amended (amended m from.0 0) to.0 m.rest.number
calendar_after m (Withdraw d) = restored m d.0

-- no code is above 15 with that of one day made another
pub recoded_small : (codes : ℕ → ℕ) (day code : ℕ) → ((d : ℕ) → codes d ≤ 15) → code ≤ 15 → (d : ℕ) → recoded codes day code d ≤ 15
recoded_small codes day code others one d = cond_both (d == day) code (codes d) (λ c. c ≤ 15) (λ _. one) (λ _. others d)

-- nor after a notice
pub after_small : (m : Meaning) (notice : Notice) → ((d : ℕ) → m.codes d ≤ 15) → ((d : ℕ) → m.rest.under d ≤ 15) → m.rest.number ≤ 15
    → (d : ℕ) → (calendar_after m notice).codes d ≤ 15
after_small m (Declare day) now under number = recoded_small m.codes day.0 m.rest.number now number
after_small m (Cancel day) now under number = recoded_small m.codes day.0 0 now Prim.Native.Nat.zero-le
after_small m (Move from to) now under number =
    recoded_small (recoded m.codes from.0 0) to.0 m.rest.number (recoded_small m.codes from.0 0 now Prim.Native.Nat.zero-le) number
after_small m (Withdraw day) now under number = recoded_small m.codes day.0 (m.rest.under day.0) now (under day.0)

-- 10 for the first of the days after 31 December 2199, else what follows
abbrev pub in_calendar : List ℕ → Result (Unit {0}) Refusal → Result (Unit {0}) Refusal
in_calendar [] next = next
in_calendar (d ∷ ds) next = cond (nat_le d 109572) (in_calendar ds next) (refuse 10 (d ∷ []))

-- 12 for a day to close that is closed
abbrev pub to_close : Meaning → ℕ → Result (Unit {0}) Refusal → Result (Unit {0}) Refusal
to_close m d next = cond (good (m.codes d)) next (refuse 12 (d ∷ []))

-- 12 for a day to open that is good
abbrev pub to_open : Meaning → ℕ → Result (Unit {0}) Refusal → Result (Unit {0}) Refusal
to_open m d next = cond (good (m.codes d)) (refuse 12 (d ∷ [])) next

-- how many of the days are not entered yet
abbrev pub new_entries : Meaning → List ℕ → ℕ
new_entries m [] = 0
new_entries m (d ∷ ds) = cond (is_entered m.rest d) 0 1 + new_entries m ds

-- 14 if there would be more than 200 entries
abbrev pub within_entries : Meaning → List ℕ → Result (Unit {0}) Refusal
within_entries m ds = cond (nat_le (length m.rest.entered + new_entries m ds) 200) (Ok tt) (refuse 14 [])

-- what the calendar refuses, by rising number: 10, 11 for a move from a day to itself, 12, 13 for nothing entered, 14
abbrev pub calendar_answer : Meaning → Notice → Result (Unit {0}) Refusal
calendar_answer m (Declare d) = in_calendar (d.0 ∷ []) (to_close m d.0 (within_entries m (d.0 ∷ [])))
calendar_answer m (Cancel d) = in_calendar (d.0 ∷ []) (to_open m d.0 (within_entries m (d.0 ∷ [])))
calendar_answer m (Move from to) =
    in_calendar (from.0 ∷ to.0 ∷ [])
    (cond (from.0 == to.0) (refuse 11 []) (to_open m from.0 (to_close m to.0 (within_entries m (from.0 ∷ to.0 ∷ [])))))
calendar_answer m (Withdraw d) = in_calendar (d.0 ∷ []) (cond (is_entered m.rest d.0) (Ok tt) (refuse 13 (d.0 ∷ [])))

-- the calendar after a notice, granted or refused by the calendar
abbrev pub after_notice : Meaning → Notice → Meaning
after_notice m notice = if_granted (calendar_answer m notice) (calendar_after m notice) m

-- The second day of a move, after its first day is opened.
use Rattle.std.proofs.Common.{◌≡◌, ℕ, ◌+◌, cond, List, length, Ok, Err, ap, ◌∙◌, arith}
use Rattle.std.proofs.lemmas.Bool.Decides.{nat_tests}
use Rattle.faults.specs.Refusals.{Refusal}
use Rattle.dates.specs.declared.day.Day.{Day}
use Rattle.tables.specs.Tables.{has, with_record}
use Rattle.tables.proofs.Places.{length_with_held, length_with_absent}
use Rattle.amendments.specs.Meanings.{Meaning, itself, amend_answer, after_open}
use Rattle.notices.specs.declared.notice.Notice.TheVariants.{Move}
use Rattle.notices.specs.Notices.{calendar_answer}
use Rattle.notices.proofs.OtherDays.{entered_with}

-- a day that is entered is one more unless it was among them
entered_count : (day : ℕ) (days : List ℕ) → length (with_record itself day days) ≡ length days + cond (has itself day days) 0 1
entered_count day days =
    let h = length_with_held itself day days in let a = length_with_absent itself day days in grind (arith, nat_tests)

-- the second day of a move that is granted is not refused
pub second_unrefused : (m mid : Meaning) (from to : Day) (f : Refusal) → Ok tt ≡ calendar_answer m (Move from to) → mid ≡ after_open m from.0 → Err f ≡ amend_answer mid.rest to.0 → ⊥
second_unrefused m mid from to f granted e err =
    let n = entered_count from.0 m.rest.entered in
    let o = entered_with from.0 to.0 m.rest.entered in
    let refused = err ∙ ap (λ k. amend_answer k.rest to.0) e in
    grind (arith, nat_tests)

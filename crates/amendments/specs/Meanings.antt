-- What an amendable calendar means, and what amendments make of it.
use Rattle.std.specs.Prelude.{ℕ, Bool, cond, ◌||◌, List, [], ◌∷◌, length, is_ok, Ok, Result, ◌==◌, nat_le, nat_lt}
use Rattle.faults.specs.Refusals.{Refusal, refuse}
use Rattle.tables.specs.Tables.{has, with_record, without}

-- all but the codes of today: what lies under each day, the entered days as a rising list, and the calendar's number
pub record Rest : Type 0 where
  pub under : ℕ → ℕ
  pub entered : List ℕ
  pub number : ℕ

-- the whole meaning
pub record Meaning : Type 0 where
  pub codes : ℕ → ℕ
  pub rest : Rest

-- the whole meaning from its two parts
abbrev pub meaning : (ℕ → ℕ) → Rest → Meaning
meaning codes rest = record { codes = codes; rest = rest }

-- a day is its own key
abbrev pub itself : ℕ → ℕ
itself d = d

-- the day is entered
abbrev pub is_entered : Rest → ℕ → Bool
is_entered rest d = has itself d rest.entered

-- codes with that of one day made another
abbrev pub recoded : (ℕ → ℕ) → ℕ → ℕ → ℕ → ℕ
recoded codes day code d = cond (d == day) code (codes d)

-- the day's code now made another, and the day entered
abbrev pub amended : Meaning → ℕ → ℕ → Meaning
amended m day code =
    record {
      codes = recoded m.codes day code;
      rest = record { under = m.rest.under; entered = with_record itself day m.rest.entered; number = m.rest.number };
    }

-- the day's code now made the code under it, and the day taken out of the entered ones
abbrev pub restored : Meaning → ℕ → Meaning
restored m day =
    record {
      codes = recoded m.codes day (m.rest.under day);
      rest = record { under = m.rest.under; entered = without itself day m.rest.entered; number = m.rest.number };
    }

-- closing or opening a day: 10 after 31 December 2199; 14 where the day would be the 201st entry
abbrev pub amend_answer : Rest → ℕ → Result (Unit {0}) Refusal
amend_answer rest day =
    cond (nat_le day 109572)
    (cond (is_entered rest day || nat_lt (length rest.entered) 200) (Ok tt) (refuse 14 []))
    (refuse 10 (day ∷ []))

-- restoring a day: 10 after 31 December 2199; 13 if it is not entered
abbrev pub restore_answer : Rest → ℕ → Result (Unit {0}) Refusal
restore_answer rest day =
    cond (nat_le day 109572) (cond (is_entered rest day) (Ok tt) (refuse 13 (day ∷ []))) (refuse 10 (day ∷ []))

-- a refusal leaves the meaning as it was
abbrev pub if_granted : Result (Unit {0}) Refusal → Meaning → Meaning → Meaning
if_granted answer new old = cond (is_ok answer) new old

-- closed by the calendar's own number
abbrev pub after_close : Meaning → ℕ → Meaning
after_close m day = if_granted (amend_answer m.rest day) (amended m day m.rest.number) m

-- made good
abbrev pub after_open : Meaning → ℕ → Meaning
after_open m day = if_granted (amend_answer m.rest day) (amended m day 0) m

-- given the code under it
abbrev pub after_restore : Meaning → ℕ → Meaning
after_restore m day = if_granted (restore_answer m.rest day) (restored m day) m

-- Shifts of which the month is one of the calendars', which is all that the private calls make.
use Rattle.std.specs.Prelude.{ℕ, ◌+◌, ◌*◌, Bool, cond, Some, None, Option, nat_le, nat_lt}
use Rattle.dates.specs.Months.{month_no, later_answer, earlier_answer}
use Rattle.bonds.specs.declared.terms.Terms.{Terms}
use Rattle.bonds.specs.Rolls.{is_back, anchor, shifted, between}

-- the month a number of months from q, in the direction of the count, if it is one of the calendars'
abbrev pub month_from : Terms → ℕ → ℕ → Option ℕ
month_from t q by = cond (is_back t) (earlier_answer q by) (later_answer q by)

-- the month k periods from the anchor's is one of the calendars'
abbrev pub reached : Terms → ℕ → Bool
reached t k = cond (is_back t) (nat_le (t.months * k) (month_no (anchor t))) (nat_lt (month_no (anchor t) + t.months * k) 3600)

-- the anchor shifted by k periods, if its month is one of the calendars'
abbrev pub shift_answer : Terms → ℕ → Option ℕ
shift_answer t k = cond (reached t k) (Some (shifted t k)) None

-- the regular date k periods from the anchor, if there is one
abbrev pub regular_answer : Terms → ℕ → Option ℕ
regular_answer t k = cond (between t (shifted t k)) (Some (shifted t k)) None

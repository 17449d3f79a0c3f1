-- Months counted from January 1900.
use Rattle.std.specs.Prelude.{ℕ, ◌+◌, ◌-◌, ◌*◌, ◌/◌, ◌%◌, min, cond, ◌&&◌, [], Some, None, Ok, Option, Result, nat_le, nat_lt}
use Rattle.faults.specs.Refusals.{Refusal, refuse}
use Rattle.dates.specs.Years.{leap, new_year, month_len, month_start, year_of, month_of}

-- the month of a year, if it is one from 1900 to 2199
abbrev pub month_answer : ℕ → ℕ → Result ℕ Refusal
month_answer y m = cond (nat_le 1900 y && (nat_le y 2199 && (nat_le 1 m && nat_le m 12))) (Ok ((y - 1900) * 12 + (m - 1))) (refuse 42 [])

-- the month in which a day lies
abbrev pub month_no : ℕ → ℕ
month_no d = 12 * year_of d + month_of d

-- the first day of month q
unfoldable pub first_of : ℕ → ℕ
first_of q = new_year (q / 12) + month_start (leap (1900 + q / 12)) (q % 12)

-- how many days month q has
unfoldable pub len_of : ℕ → ℕ
len_of q = month_len (leap (1900 + q / 12)) (q % 12)

-- the day at place p of month q, from 0, cut to the month's length
abbrev pub cut_to : ℕ → ℕ → ℕ
cut_to q p = first_of q + min p (len_of q - 1)

-- a number of months later, none after December 2199
abbrev pub later_answer : ℕ → ℕ → Option ℕ
later_answer q by = cond (nat_lt (q + by) 3600) (Some (q + by)) None

-- a number of months earlier, none before January 1900
abbrev pub earlier_answer : ℕ → ℕ → Option ℕ
earlier_answer q by = cond (nat_le by q) (Some (q - by)) None

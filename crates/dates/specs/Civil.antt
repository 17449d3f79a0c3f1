-- Civil dates, and the days that they are.
use Rattle.std.specs.Prelude.{ℕ, ◌+◌, ◌-◌, Bool, cond, ◌&&◌, ◌||◌, [], ◌∷◌, Ok, Result, ◌==◌, nat_le, nat_lt}
use Rattle.faults.specs.Refusals.{Refusal, refuse}
use Rattle.dates.specs.declared.civil_date.CivilDate.{CivilDate}
use Rattle.dates.specs.declared.day.Day.{Day}
use Rattle.dates.specs.Years.{leap, new_year, month_len, month_start, year_of, month_of, place_of}

-- a question about a day: refused with 10 after 31 December 2199, else this answer
abbrev pub asked : {A : Type 0} → ℕ → A → Result A Refusal
asked d a = cond (nat_le d 109572) (Ok a) (refuse 10 (d ∷ []))

-- the date exists, from 1900 to 2199
abbrev pub possible : ℕ → ℕ → ℕ → Bool
possible y m d = nat_le 1900 y && (nat_le y 2199 && (nat_le 1 m && (nat_le m 12 && (nat_le 1 d && nat_le d (month_len (leap y) (m - 1))))))

-- the number of days from 1 January 1900 to a date
abbrev pub day_number : ℕ → ℕ → ℕ → ℕ
day_number y m d = new_year (y - 1900) + month_start (leap y) (m - 1) + (d - 1)

-- the day of a civil date; any other date is refused with 42
abbrev pub day_answer : CivilDate → Result Day Refusal
day_answer c = cond (possible c.year c.month c.day) (Ok (record { 0 = day_number c.year c.month c.day })) (refuse 42 [])

-- the civil date of a day
abbrev pub civil_at : ℕ → CivilDate
civil_at n = record { year = 1900 + year_of n; month = month_of n + 1; day = place_of n + 1 }

abbrev pub civil_answer : Day → Result CivilDate Refusal
civil_answer d = asked d.0 (civil_at d.0)

-- one date stands before another: by year, then month, then day
abbrev pub earlier : CivilDate → CivilDate → Bool
earlier a b =
    nat_lt a.year b.year
    || (a.year == b.year && (nat_lt a.month b.month || (a.month == b.month && nat_lt a.day b.day)))

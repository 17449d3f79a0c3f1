-- The entries of the yearly and the Easter rule.
use Rattle.std.specs.Prelude.{ℕ, suc, ◌+◌, Bool, false, ◌&&◌, ℤ, pos, negsuc, ◌==◌, int_le}
use Rattle.dates.specs.Civil.{possible, civil_at}
use Rattle.dates.specs.Easter.{easter_of_day}
use Rattle.calendars.specs.declared.month_day.MonthDay.{MonthDay}
use Rattle.calendars.specs.declared.easter_offset.EasterOffset.{EasterOffset}

-- a date that the leap year 2000 has, so that 29 February counts
abbrev pub month_day_possible : MonthDay → Bool
month_day_possible e = possible 2000 e.month e.day

abbrev pub month_day_same : MonthDay → MonthDay → Bool
month_day_same e f = e.month == f.month && e.day == f.day

-- it closes the days of that month and day
abbrev pub month_day_closes : MonthDay → ℕ → Bool
month_day_closes e d = (civil_at d).month == e.month && (civil_at d).day == e.day

-- offsets from -60 to 60
abbrev pub offset_possible : EasterOffset → Bool
offset_possible e = int_le (negsuc 59) e.days && int_le e.days (pos 60)

-- the day d lies z days after the day e, before it if z is below 0
abbrev pub days_after : ℤ → ℕ → ℕ → Bool
days_after (pos n) e d = d == e + n
days_after (negsuc n) e d = d + suc n == e

abbrev pub same_offset : ℤ → ℤ → Bool
same_offset (pos m) (pos n) = m == n
same_offset (pos m) (negsuc n) = false
same_offset (negsuc m) (pos n) = false
same_offset (negsuc m) (negsuc n) = m == n

abbrev pub offset_same : EasterOffset → EasterOffset → Bool
offset_same e f = same_offset e.days f.days

-- it closes the day so many days after the Easter Sunday of its year
abbrev pub offset_closes : EasterOffset → ℕ → Bool
offset_closes e d = days_after e.days (easter_of_day d).0 d

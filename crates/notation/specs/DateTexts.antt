-- Dates as they are written.
use Rattle.std.specs.Prelude.{◌≡◌, ℕ, ◌≤◌, Bool, ◌&&◌, List, length, take, drop, Some, Option, ◌==◌, slice_index}
use Rattle.std.specs.Result.{result_ok}
use Rattle.dates.specs.Civil.{day_answer, civil_at}
use Rattle.dates.specs.DateText.{date_text}
use Rattle.dates.specs.declared.civil_date.CivilDate.{CivilDate}
use Rattle.dates.specs.declared.day.Day.{Day}
use Rattle.notation.specs.Readers.{when, and_then}
use Rattle.notation.specs.Numerals.{digits_of}

-- YYYY-MM-DD: ten bytes with hyphens (45) after the fourth and the seventh
abbrev pub hyphened : List ℕ → Bool
hyphened bs = length bs == 10 && (slice_index bs 4 == 45 && slice_index bs 7 == 45)

-- the civil date so written, whether or not it exists
abbrev pub civil_of : List ℕ → Option CivilDate
civil_of bs =
    when (hyphened bs)
    (and_then (digits_of (take 4 bs)) (λ year.
    and_then (digits_of (take 2 (drop 5 bs))) (λ month.
    and_then (digits_of (take 2 (drop 8 bs))) (λ day.
    Some (record { year = year; month = month; day = day })))))

-- its day, if it exists
abbrev pub date_of : List ℕ → Option Day
date_of bs = and_then (civil_of bs) (λ date. result_ok (day_answer date))

-- the civil date of a day up to 31 December 2199, as it is printed
abbrev pub Dated : List ℕ → Day → Type 0
Dated bs d = (d.0 ≤ 109572) × (bs ≡ date_text (civil_at d.0))

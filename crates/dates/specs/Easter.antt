-- Easter Sunday by the rule of Meeus, fractions dropped.
use Rattle.std.specs.Prelude.{ℕ, ◌+◌, ◌-◌, ◌*◌, ◌/◌, ◌%◌, cond, ◌&&◌, [], Ok, Result, ◌==◌, nat_le}
use Rattle.faults.specs.Refusals.{Refusal, refuse}
use Rattle.dates.specs.declared.day.Day.{Day}
use Rattle.dates.specs.Years.{year_of}
use Rattle.dates.specs.Civil.{day_number}

-- the number s of the rule, from which month and day are read
unfoldable pub easter_sum : ℕ → ℕ
easter_sum y =
    let a : ℕ = y % 19 in
    let b : ℕ = y / 100 in
    let c : ℕ = y % 100 in
    let d : ℕ = b / 4 in
    let e : ℕ = b % 4 in
    let f : ℕ = (b + 8) / 25 in
    let g : ℕ = (b - f + 1) / 3 in
    let h : ℕ = (19 * a + b - d - g + 15) % 30 in
    let i : ℕ = c / 4 in
    let k : ℕ = c % 4 in
    let l : ℕ = (32 + 2 * e + 2 * i - h - k) % 7 in
    let m : ℕ = (a + 11 * h + 22 * l) / 451 in
    h + l - 7 * m + 114

-- its month, 3 or 4
unfoldable pub easter_month : ℕ → ℕ
easter_month y = easter_sum y / 31

-- its day in that month
unfoldable pub easter_day : ℕ → ℕ
easter_day y = easter_sum y % 31 + 1

-- the days from 21 March to it
unfoldable pub easter_after : ℕ → ℕ
easter_after y = cond (easter_month y == 3) (easter_day y - 21) (easter_day y + 10)

-- the day of Easter Sunday
abbrev pub easter_number : ℕ → ℕ
easter_number y = day_number y (easter_month y) (easter_day y)

-- Easter Sunday of a year from 1900 to 2199; any other year is refused with 42
abbrev pub easter_answer : ℕ → Result Day Refusal
easter_answer y = cond (nat_le 1900 y && nat_le y 2199) (Ok (record { 0 = easter_number y })) (refuse 42 [])

-- Easter Sunday of the year in which a day lies
abbrev pub easter_of_day : ℕ → Day
easter_of_day d = record { 0 = easter_number (1900 + year_of d) }

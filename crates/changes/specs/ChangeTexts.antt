-- A change as it is printed.
use Rattle.std.specs.Prelude.{ℕ, cond, List, ◌++◌, codes, decimal, Option, Some, None, nat_le}
use Rattle.dates.specs.Civil.{civil_at}
use Rattle.dates.specs.DateText.{date_text}
use Rattle.changes.specs.Changes.{Altered}

-- a date, or a hyphen where there is none (none lies after 31 December 2199, day 109,572)
abbrev pub optional_date : Option ℕ → List ℕ
optional_date None = codes "-"
optional_date (Some d) = cond (nat_le d 109572) (date_text (civil_at d)) (codes "-")

-- a space, and what follows it
abbrev pub after_space : List ℕ → List ℕ
after_space text = codes " " ++ text

-- two numbers, each after a space
abbrev pub both_numbers : ℕ → ℕ → List ℕ
both_numbers a b = after_space (decimal a) ++ after_space (decimal b)

-- two dates, each after a space
abbrev pub both_dates : Option ℕ → Option ℕ → List ℕ
both_dates a b = after_space (optional_date a) ++ after_space (optional_date b)

-- bond and payment number; then old before new: dates, fixings, days, amounts; the code of the old date after, that of the new date before
abbrev pub change_text : Altered → List ℕ
change_text c =
    decimal c.bond ++ after_space (decimal c.payment)
    ++ both_dates (Some c.old.date) (Some c.new.date) ++ both_dates c.old.fixing c.new.fixing
    ++ both_numbers c.old.days c.new.days ++ both_numbers c.old.amount c.new.amount ++ both_numbers c.closes_old c.closed_new

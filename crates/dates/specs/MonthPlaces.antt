-- A day by its month and its place there.
use Rattle.std.specs.Prelude.{ℕ}
use Rattle.dates.specs.declared.month.MonthPlace.{MonthPlace}
use Rattle.dates.specs.Years.{place_of}
use Rattle.dates.specs.Months.{month_no}

-- a month, counted from January 1900, and a place in it, from 0
pub record Spot : Type 0 where
  pub month : ℕ
  pub place : ℕ

abbrev pub spot_of_place : MonthPlace → Spot
spot_of_place p = record { month = p.month.index; place = p.place }

abbrev pub spot_of_day : ℕ → Spot
spot_of_day d = record { month = month_no d; place = place_of d }

-- The code's rolls and footings as plain numbers.
use Rattle.std.specs.Prelude.{ℕ}
use Rattle.std.specs.Option.{option_map}
use Rattle.dates.specs.declared.day.Day.{Day}
use Rattle.generation.specs.declared.roll.Roll.{Roll}
use Rattle.generation.specs.declared.footing.Footing.{Footing}
use Rattle.generation.specs.Rolls.{RollDays, Span}

-- the number of a day
abbrev pub number_of : Day → ℕ
number_of d = d.0

abbrev pub seen_roll : Roll → RollDays
seen_roll r = record { adjusted = r.adjusted.number; fixing = option_map number_of r.fixing }

abbrev pub seen_footing : Footing → Span
seen_footing f = record { low = f.low.0; high = f.high.0 }

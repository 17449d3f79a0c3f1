-- Weekdays, counted from Monday as 0.
use Rattle.std.specs.Prelude.{ℕ}
use Rattle.dates.specs.declared.weekday.Weekday.{Weekday}
use Rattle.dates.specs.declared.weekday.Weekday.TheVariants.{Monday, Tuesday, Wednesday, Thursday, Friday, Saturday, Sunday}

abbrev pub from_monday : Weekday → ℕ
from_monday Monday = 0
from_monday Tuesday = 1
from_monday Wednesday = 2
from_monday Thursday = 3
from_monday Friday = 4
from_monday Saturday = 5
from_monday Sunday = 6

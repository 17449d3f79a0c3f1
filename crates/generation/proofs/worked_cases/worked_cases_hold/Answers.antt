use Rattle.std.proofs.Common.{refl}
use Rattle.dates.specs.Years.{new_year, month_len, month_start, last_place, year_of, month_of, place_of}
use Rattle.dates.specs.Months.{first_of, len_of}
use Rattle.dates.specs.Easter.{easter_sum, easter_month, easter_day}
use Rattle.conventions.specs.Tries.{first_good}
use Rattle.conventions.specs.Turns.{upward, downward, turning}
use Rattle.generation.proofs.worked_cases.worked_cases_hold.Goals as goal

pub returns : goal.returns
unfolding new_year month_len month_start last_place year_of month_of place_of first_of len_of easter_sum easter_month easter_day first_good upward downward turning
returns c =
    record {
      easter_1954 = (refl, refl);
      easter_2024 = (refl, refl);
      easter_2025 = (refl, refl);
      good_friday = refl;
      saturday = refl;
      labour_day = refl;
      modified = refl;
      on = refl;
      half = refl;
      under_half = refl;
    }

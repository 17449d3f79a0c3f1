-- Examples worked out by hand.
use Rattle.std.specs.Prelude.{◌≡◌, Some}
use Rattle.dates.specs.Civil.{day_number}
use Rattle.dates.specs.Easter.{easter_month, easter_day}
use Rattle.calendars.specs.Codes.{good}
use Rattle.calendars.specs.Target.{target_code}
use Rattle.conventions.specs.Tries.{first_good}
use Rattle.conventions.specs.Turns.{modified_following, following}
use Rattle.bonds.specs.Money.{amount}

pub record WorkedCases : Type 0 where
  -- Easter Sunday is 18 April 1954, 31 March 2024 and 20 April 2025
  pub easter_1954 : (easter_month 1954 ≡ 4) × (easter_day 1954 ≡ 18)
  pub easter_2024 : (easter_month 2024 ≡ 3) × (easter_day 2024 ≡ 31)
  pub easter_2025 : (easter_month 2025 ≡ 4) × (easter_day 2025 ≡ 20)
  -- of TARGET's days in 2024, Good Friday is closed by layer 3, the Saturday after it by 1, 1 May by 2
  pub good_friday : target_code (day_number 2024 3 29) ≡ 3
  pub saturday : target_code (day_number 2024 3 30) ≡ 1
  pub labour_day : target_code (day_number 2024 5 1) ≡ 2
  -- Easter Sunday 2024 goes back to Thursday under modified following, and on to Tuesday under following
  pub modified : first_good (λ d. good (target_code d)) (modified_following (day_number 2024 3 31)) ≡ Some (day_number 2024 3 28)
  pub on : first_good (λ d. good (target_code d)) (following (day_number 2024 3 31)) ≡ Some (day_number 2024 4 2)
  -- an exact half goes up, less does not
  pub half : amount 100 1000 180 ≡ 1
  pub under_half : amount 100 1000 179 ≡ 0

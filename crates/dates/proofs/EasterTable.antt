-- The table of the code once more: the check compares the two.
use Rattle.std.proofs.Common.{◌≡◌, ℕ, ◌+◌, ◌<◌, ◌≤◌, List, [], ◌∷◌, get_or, refl}
use Rattle.dates.specs.Easter.{easter_sum, easter_month, easter_day, easter_after}
use Rattle.dates.specs.Years.{leap, new_year, month_start}
use Rattle.dates.specs.Civil.{day_number}
use Rattle.dates.proofs.Computed.{table, equal, at_most}

unfoldable pub entries : List ℕ
entries =
    25 ∷ 17 ∷ 9 ∷ 22 ∷ 13 ∷ 33 ∷ 25 ∷ 10 ∷ 29 ∷ 21 ∷ 6 ∷ 26 ∷ 17 ∷ 2 ∷ 22 ∷ 14 ∷ 33 ∷ 18 ∷ 10 ∷ 30 ∷
    14 ∷ 6 ∷ 26 ∷ 11 ∷ 30 ∷ 22 ∷ 14 ∷ 27 ∷ 18 ∷ 10 ∷ 30 ∷ 15 ∷ 6 ∷ 26 ∷ 11 ∷ 31 ∷ 22 ∷ 7 ∷ 27 ∷ 19 ∷
    3 ∷ 23 ∷ 15 ∷ 35 ∷ 19 ∷ 11 ∷ 31 ∷ 16 ∷ 7 ∷ 27 ∷ 19 ∷ 4 ∷ 23 ∷ 15 ∷ 28 ∷ 20 ∷ 11 ∷ 31 ∷ 16 ∷ 8 ∷
    27 ∷ 12 ∷ 32 ∷ 24 ∷ 8 ∷ 28 ∷ 20 ∷ 5 ∷ 24 ∷ 16 ∷ 8 ∷ 21 ∷ 12 ∷ 32 ∷ 24 ∷ 9 ∷ 28 ∷ 20 ∷ 5 ∷ 25 ∷
    16 ∷ 29 ∷ 21 ∷ 13 ∷ 32 ∷ 17 ∷ 9 ∷ 29 ∷ 13 ∷ 5 ∷ 25 ∷ 10 ∷ 29 ∷ 21 ∷ 13 ∷ 26 ∷ 17 ∷ 9 ∷ 22 ∷ 14 ∷
    33 ∷ 25 ∷ 10 ∷ 30 ∷ 21 ∷ 6 ∷ 26 ∷ 18 ∷ 2 ∷ 22 ∷ 14 ∷ 34 ∷ 18 ∷ 10 ∷ 30 ∷ 15 ∷ 6 ∷ 26 ∷ 11 ∷ 31 ∷
    22 ∷ 14 ∷ 27 ∷ 19 ∷ 10 ∷ 30 ∷ 15 ∷ 7 ∷ 26 ∷ 11 ∷ 31 ∷ 23 ∷ 7 ∷ 27 ∷ 19 ∷ 4 ∷ 23 ∷ 15 ∷ 35 ∷ 20 ∷
    11 ∷ 31 ∷ 16 ∷ 8 ∷ 27 ∷ 19 ∷ 4 ∷ 24 ∷ 15 ∷ 28 ∷ 20 ∷ 12 ∷ 31 ∷ 16 ∷ 8 ∷ 28 ∷ 12 ∷ 32 ∷ 24 ∷ 9 ∷
    28 ∷ 20 ∷ 5 ∷ 25 ∷ 16 ∷ 8 ∷ 21 ∷ 13 ∷ 32 ∷ 24 ∷ 9 ∷ 29 ∷ 20 ∷ 5 ∷ 25 ∷ 17 ∷ 29 ∷ 21 ∷ 13 ∷ 33 ∷
    17 ∷ 9 ∷ 29 ∷ 14 ∷ 5 ∷ 25 ∷ 10 ∷ 30 ∷ 21 ∷ 13 ∷ 26 ∷ 18 ∷ 9 ∷ 22 ∷ 14 ∷ 34 ∷ 25 ∷ 10 ∷ 30 ∷ 22 ∷
    7 ∷ 27 ∷ 19 ∷ 4 ∷ 23 ∷ 15 ∷ 28 ∷ 20 ∷ 11 ∷ 31 ∷ 16 ∷ 8 ∷ 27 ∷ 12 ∷ 32 ∷ 24 ∷ 8 ∷ 28 ∷ 20 ∷ 5 ∷
    24 ∷ 16 ∷ 8 ∷ 21 ∷ 12 ∷ 32 ∷ 24 ∷ 9 ∷ 28 ∷ 20 ∷ 5 ∷ 25 ∷ 16 ∷ 29 ∷ 21 ∷ 13 ∷ 32 ∷ 17 ∷ 9 ∷ 29 ∷
    13 ∷ 5 ∷ 25 ∷ 10 ∷ 29 ∷ 21 ∷ 13 ∷ 26 ∷ 17 ∷ 9 ∷ 22 ∷ 14 ∷ 33 ∷ 25 ∷ 10 ∷ 30 ∷ 21 ∷ 6 ∷ 26 ∷ 18 ∷
    2 ∷ 22 ∷ 14 ∷ 34 ∷ 18 ∷ 10 ∷ 30 ∷ 15 ∷ 6 ∷ 26 ∷ 11 ∷ 31 ∷ 22 ∷ 14 ∷ 27 ∷ 19 ∷ 10 ∷ 30 ∷ 15 ∷ 7 ∷
    26 ∷ 11 ∷ 31 ∷ 23 ∷ 7 ∷ 27 ∷ 19 ∷ 4 ∷ 23 ∷ 15 ∷ 35 ∷ 20 ∷ 11 ∷ 31 ∷ 16 ∷ 8 ∷ 27 ∷ 19 ∷ 4 ∷ 24 ∷ []

pub right : (n : ℕ) → n < 300 → get_or entries n 0 ≡ easter_after (1900 + n)
unfolding entries easter_sum easter_month easter_day easter_after
right = table entries (λ k. easter_after (1900 + k)) 300 refl

-- no Easter is more than 35 days after 21 March
pub high : (n : ℕ) → n < 300 → easter_after (1900 + n) ≤ 35
unfolding easter_sum easter_month easter_day easter_after
high = at_most (λ k. easter_after (1900 + k)) (λ k. 35) 300 refl

-- that many days after 21 March is the day of the rule's month and day
pub on_date : (n : ℕ) → n < 300
    → new_year n + month_start (leap (1900 + n)) 2 + 20 + easter_after (1900 + n) ≡ day_number (1900 + n) (easter_month (1900 + n)) (easter_day (1900 + n))
unfolding new_year month_start easter_sum easter_month easter_day easter_after
on_date =
    equal (λ k. new_year k + month_start (leap (1900 + k)) 2 + 20 + easter_after (1900 + k))
    (λ k. day_number (1900 + k) (easter_month (1900 + k)) (easter_day (1900 + k))) 300 refl

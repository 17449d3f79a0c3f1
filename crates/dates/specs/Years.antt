-- Gregorian years and their months, counted from 1 January 1900.
use Rattle.std.specs.Prelude.{ℕ, zero, suc, ◌+◌, ◌-◌, ◌%◌, Bool, true, false, cond, not, ◌&&◌, ◌||◌, List, [], ◌∷◌, ◌==◌, nat_le, slice_index}

-- a leap year: by 4, and by 100 only if by 400
abbrev pub leap : ℕ → Bool
leap y = y % 4 == 0 && (not (y % 100 == 0) || y % 400 == 0)

abbrev pub year_len : ℕ → ℕ
year_len y = cond (leap y) 366 365

-- the days from 1 January 1900 to 1 January of the year 1900 + n
unfoldable pub new_year : ℕ → ℕ
new_year zero = 0
new_year (suc n) = new_year n + year_len (1900 + n)

-- the lengths of the twelve months; the mark says whether the year is a leap year
abbrev pub lengths : Bool → List ℕ
lengths long = 31 ∷ cond long 29 28 ∷ 31 ∷ 30 ∷ 31 ∷ 30 ∷ 31 ∷ 31 ∷ 30 ∷ 31 ∷ 30 ∷ 31 ∷ []

-- the length of month m, from 0
unfoldable pub month_len : Bool → ℕ → ℕ
month_len long m = slice_index (lengths long) m

-- the days of the year before month m
unfoldable pub month_start : Bool → ℕ → ℕ
month_start long zero = 0
month_start long (suc m) = month_start long m + slice_index (lengths long) m

-- the last place from 0 to n at which the row s is not above x
unfoldable pub last_place : (ℕ → ℕ) → ℕ → ℕ → ℕ
last_place s zero x = 0
last_place s (suc n) x = elim (nat_le (s (suc n)) x) [ true ↦ suc n | false ↦ last_place s n x ]

-- the year, from 1900, in which a day lies
unfoldable pub year_of : ℕ → ℕ
year_of d = last_place new_year 299 d

-- the month of that year, from 0
unfoldable pub month_of : ℕ → ℕ
month_of d = last_place (month_start (leap (1900 + year_of d))) 11 (d - new_year (year_of d))

-- the place in that month, from 0
unfoldable pub place_of : ℕ → ℕ
place_of d = d - new_year (year_of d) - month_start (leap (1900 + year_of d)) (month_of d)

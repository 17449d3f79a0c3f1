-- The days that following, preceding and modified following try.
use Rattle.std.specs.Prelude.{ℕ, zero, suc, ◌+◌, ◌-◌, List, [], ◌∷◌, ◌++◌}
use Rattle.dates.specs.Months.{month_no, cut_to}

-- n days from d on
unfoldable pub upward : ℕ → ℕ → List ℕ
upward zero d = []
upward (suc n) d = d ∷ upward n (d + 1)

-- n days before d, the nearest first
unfoldable pub downward : ℕ → ℕ → List ℕ
downward zero d = []
downward (suc n) d = (d - 1) ∷ downward n (d - 1)

-- u up to the last, then so many days back from u - 1
unfoldable pub turning : ℕ → ℕ → ℕ → List ℕ
turning last back u = upward (last + 1 - u) u ++ downward back u

-- the last day of the month in which u lies
abbrev pub last_of : ℕ → ℕ
last_of u = cut_to (month_no u) 30

-- u up to u + 30
abbrev pub following : ℕ → List ℕ
following u = turning (u + 30) 0 u

-- u down to u - 30
abbrev pub preceding : ℕ → List ℕ
preceding u = turning u 30 u

-- u and on to its month's end, then the 30 days before u, the nearest first
abbrev pub modified_following : ℕ → List ℕ
modified_following u = turning (last_of u) 30 u

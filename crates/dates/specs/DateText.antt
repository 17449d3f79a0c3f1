-- A civil date as it is written.
use Rattle.std.specs.Prelude.{ℕ, ◌-◌, List, ◌++◌, length, codes, decimal, replicate}
use Rattle.dates.specs.declared.civil_date.CivilDate.{CivilDate}

-- the number's digits, behind zeros up to this width; '0' is 48
unfoldable pub zero_padded : ℕ → ℕ → List ℕ
zero_padded width n = replicate (width - length (decimal n)) 48 ++ decimal n

-- YYYY-MM-DD
abbrev pub date_text : CivilDate → List ℕ
date_text c = zero_padded 4 c.year ++ (codes "-" ++ (zero_padded 2 c.month ++ (codes "-" ++ zero_padded 2 c.day)))

-- Months in order: each begins where the one before ends, so a day of a later month is a later day.
use Rattle.std.proofs.Common.{◌≡◌, ℕ, suc, ◌+◌, ◌*◌, ◌/◌, ◌%◌, ◌<◌, ◌≤◌, refl, inl, inr, arith}
use Rattle.std.proofs.lemmas.Bool.{cases_lt}
use Rattle.dates.specs.Years.{leap, new_year, month_len, month_start, year_of, month_of, place_of}
use Rattle.dates.specs.Months.{month_no, first_of, len_of, cut_to}
use Rattle.dates.proofs.Rows.{rises}
use Rattle.dates.proofs.YearCounts.{year_more}
use Rattle.dates.proofs.MonthTables.{month_more, whole, len_low}
use Rattle.dates.proofs.Facts.{parts, month_zero, year_end}

pub len_least : (q : ℕ) → 28 ≤ len_of q
unfolding len_of
len_least q = len_low (leap (1900 + q / 12)) (q % 12) (omega arith)

-- the next month begins where this one ends
pub first_more : (q : ℕ) → first_of (suc q) ≡ first_of q + len_of q
unfolding first_of len_of
first_more q =
    let long = leap (1900 + q / 12) in
    elim (cases_lt (q % 12) 11) [
      | inl lt ↦
          (let y : suc q / 12 ≡ q / 12 = omega arith in
          let m : suc q % 12 ≡ suc (q % 12) = omega arith in
          rw (y, m) (omega (arith, month_more long (q % 12))))
      | inr ge ↦
          (let y : suc q / 12 ≡ suc (q / 12) = omega arith in
          let m : suc q % 12 ≡ 0 = omega arith in
          let e : q % 12 ≡ 11 = omega arith in
          rw (y, m, e) (omega (arith, month_zero (leap (1900 + suc (q / 12))), year_more (q / 12), whole long, month_more long 11)))
    ]

-- a month by its year and its place there
pub first_in : (y m : ℕ) → m < 12 → first_of (12 * y + m) ≡ new_year y + month_start (leap (1900 + y)) m
unfolding first_of
first_in y m h =
    let a : (12 * y + m) / 12 ≡ y = omega arith in
    let b : (12 * y + m) % 12 ≡ m = omega arith in
    rw (a, b) refl

pub len_in : (y m : ℕ) → m < 12 → len_of (12 * y + m) ≡ month_len (leap (1900 + y)) m
unfolding len_of
len_in y m h =
    let a : (12 * y + m) / 12 ≡ y = omega arith in
    let b : (12 * y + m) % 12 ≡ m = omega arith in
    rw (a, b) refl

pub first_rises : (q r : ℕ) → q ≤ r → first_of q ≤ first_of r
first_rises q r h = rises first_of r (λ k _. omega (arith, first_more k)) q r h (omega arith)

-- a day of a later month is later, whatever the places
pub cut_rises : (q r p s : ℕ) → q < r → cut_to q p < cut_to r s
cut_rises q r p s h = omega (arith, first_more q, len_least q, first_rises (suc q) r h)

-- the months after December 2199 begin after the last day
pub end_is : first_of 3600 ≡ 109573
unfolding first_of month_start
end_is = omega (arith, year_end)

pub too_late : (q p : ℕ) → 3600 ≤ q → 109573 ≤ cut_to q p
too_late q p h = omega (arith, first_rises 3600 q h, end_is)

-- January 1900
pub in_first : (p : ℕ) → cut_to 0 p ≤ 30
unfolding first_of len_of new_year month_start month_len
in_first p = omega arith

-- a day stands at its place of its month
pub first_place : (d : ℕ) → d ≤ 109572 → first_of (month_no d) + place_of d ≡ d
first_place d h = let p = parts d h in omega (arith, first_in (year_of d) (month_of d) (omega (arith, p.month)), p.sum)

pub place_in : (d : ℕ) → d ≤ 109572 → place_of d < len_of (month_no d)
place_in d h = let p = parts d h in omega (arith, len_in (year_of d) (month_of d) (omega (arith, p.month)), p.place)

pub stands : (d : ℕ) → d ≤ 109572 → cut_to (month_no d) (place_of d) ≡ d
stands d h = omega (arith, first_place d h, place_in d h)

pub month_top : (d : ℕ) → d ≤ 109572 → month_no d < 3600
month_top d h = let p = parts d h in omega (arith, p.year, p.month)

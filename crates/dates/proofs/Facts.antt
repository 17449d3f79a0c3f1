-- Where a day up to 109,572 lies.
use Rattle.std.proofs.Common.{◌≡◌, ℕ, suc, ◌+◌, ◌-◌, ◌/◌, ◌<◌, ◌≤◌, Bool, sym, refl, add-one, arith}
use Rattle.dates.specs.Years.{leap, new_year, month_len, month_start, year_of, month_of, place_of}
use Rattle.dates.proofs.Rows.{Within, within, place_is, rises}
use Rattle.dates.proofs.YearCounts.{counted, rising, year_more}
use Rattle.dates.proofs.MonthTables.{month_more, whole, len_high, month_rising, start_high}

pub year_zero : new_year 0 ≡ 0
unfolding new_year
year_zero = refl

pub month_zero : (b : Bool) → month_start b 0 ≡ 0
unfolding month_start
month_zero b = refl

pub year_end : new_year 300 ≡ 109573
year_end = counted 300 (omega arith)

pub in_year : (d : ℕ) → d ≤ 109572 → Within new_year 299 d (year_of d)
unfolding year_of
in_year d h = within new_year 299 d (omega (arith, year_zero)) (omega (arith, year_end))

pub in_month : (d : ℕ) → d ≤ 109572
    → Within (month_start (leap (1900 + year_of d))) 11 (d - new_year (year_of d)) (month_of d)
unfolding month_of
in_month d h =
    within (month_start (leap (1900 + year_of d))) 11 (d - new_year (year_of d))
    (omega (arith, month_zero (leap (1900 + year_of d))))
    (omega (arith, (in_year d h).low, (in_year d h).high, year_more (year_of d), whole (leap (1900 + year_of d))))

-- the parts of a day
pub record Parts (d : ℕ) : Type 0 where
  pub year : year_of d ≤ 299
  pub month : month_of d ≤ 11
  pub place : place_of d < month_len (leap (1900 + year_of d)) (month_of d)
  pub sum : new_year (year_of d) + month_start (leap (1900 + year_of d)) (month_of d) + place_of d ≡ d

pub parts : (d : ℕ) → d ≤ 109572 → Parts d
unfolding place_of
parts d h =
    let y = in_year d h in
    let m = in_month d h in
    record {
      year = y.top;
      month = m.top;
      place = omega (arith, m.low, m.high, month_more (leap (1900 + year_of d)) (month_of d));
      sum = omega (arith, y.low, m.low);
    }

pub year_is : (d n : ℕ) → n ≤ 299 → new_year n ≤ d → d < new_year (n + 1) → n ≡ year_of d
unfolding year_of
year_is d n t l h = sym (place_is new_year 299 (λ k _. rising k) d n (omega (arith, year_zero)) (record { top = t; low = l; high = rw add-one at h }))

pub guess_high : (d : ℕ) → d ≤ 109572 → new_year (d / 366 + 1) ≤ d → d / 366 + 1 ≡ year_of d
guess_high d h l =
    let n : ℕ = d / 366 + 1 in
    let t : n ≤ 299 = grind (arith, counted n (omega arith)) in
    year_is d n t l (grind (arith, counted (n + 1) (omega arith)))

pub guess_low : (d : ℕ) → d ≤ 109572 → d < new_year (d / 366 + 1) → d / 366 ≡ year_of d
guess_low d h l = year_is d (d / 366) (omega arith) (grind (arith, counted (d / 366) (omega arith))) l

-- a place in a month is below 31
pub place_high : (d : ℕ) → d ≤ 109572 → place_of d < 31
place_high d h = omega (arith, (parts d h).place, len_high (leap (1900 + year_of d)) (month_of d) (omega (arith, (parts d h).month)))

-- the other way: a year, a month of it and a day of that give a day, of which they are the parts
pub record Given (y m p d : ℕ) : Type 0 where
  pub year : y ≤ 299
  pub month : m ≤ 11
  pub place : p < month_len (leap (1900 + y)) m
  pub sum : new_year y + month_start (leap (1900 + y)) m + p ≡ d

-- such a day lies before the next year
pub given_end : (y m p d : ℕ) → Given y m p d → d < new_year (suc y)
given_end y m p d g =
    omega (arith, g.sum, g.place, g.month, year_more y, month_more (leap (1900 + y)) m, start_high (leap (1900 + y)) (suc m) (omega (arith, g.month)))

pub given_year : (y m p d : ℕ) → Given y m p d → year_of d ≡ y
given_year y m p d g = sym (year_is d y g.year (omega (arith, g.sum)) (rw add-one (given_end y m p d g)))

pub given_top : (y m p d : ℕ) → Given y m p d → d ≤ 109572
given_top y m p d g =
    omega (arith, given_end y m p d g, rises new_year 300 (λ k _. rising k) (suc y) 300 (omega (arith, g.year)) (omega arith), year_end)

pub given_month : (y m p d : ℕ) → Given y m p d → month_of d ≡ m
unfolding month_of
given_month y m p d g =
    let e = given_year y m p d g in
    rw e (place_is (month_start (leap (1900 + y))) 11 (λ k _. month_rising (leap (1900 + y)) k) (d - new_year y) m
    (omega (arith, month_zero (leap (1900 + y))))
    (record { top = g.month; low = omega (arith, g.sum); high = omega (arith, g.sum, g.place, month_more (leap (1900 + y)) m) }))

pub given_place : (y m p d : ℕ) → Given y m p d → place_of d ≡ p
unfolding place_of
given_place y m p d g = let e = given_year y m p d g in let f = given_month y m p d g in rw (e, f) (omega (arith, g.sum))

-- by year, then month, then day: such days stand in the order of their parts
pub year_order : (y m p d z n q e : ℕ) → Given y m p d → Given z n q e → y < z → d < e
year_order y m p d z n q e g h l =
    omega (arith, given_end y m p d g, h.sum, rises new_year 300 (λ k _. rising k) (suc y) z l (omega (arith, h.year)))

pub month_order : (y m p d z n q e : ℕ) → Given y m p d → Given z n q e → y ≡ z → m < n → d < e
month_order y m p d z n q e g h s l =
    let k : Given y n q e = rw s h in
    let long = leap (1900 + y) in
    omega (arith, g.sum, g.place, k.sum, month_more long m, rises (month_start long) 12 (λ j _. month_rising long j) (suc m) n l (omega (arith, k.month)))

pub place_order : (y m p d z n q e : ℕ) → Given y m p d → Given z n q e → y ≡ z → m ≡ n → p < q → d < e
place_order y m p d z n q e g h s t l = let k : Given y m q e = rw (s, t) h in omega (arith, g.sum, k.sum)

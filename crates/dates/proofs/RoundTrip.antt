-- Between a day and its civil date nothing is lost, and later dates have larger numbers.
use Rattle.std.proofs.Common.{◌≡◌, ℕ, ◌+◌, ◌-◌, ◌<◌, ◌≤◌, true, ◌⊎◌, Ok, Result, sym, refl, ap, ◌∙◌, inl, inr, arith}
use Rattle.std.proofs.lemmas.Bool.Decides.{nat_tests}
use Rattle.std.proofs.lemmas.Bool.{cases_lt}
use Rattle.faults.specs.Refusals.{told, calendar_refusal}
use Rattle.faults.specs.declared.origins.CalendarFault.{CalendarFault}
use Rattle.dates.specs.declared.civil_date.CivilDate.{CivilDate}
use Rattle.dates.specs.declared.day.Day.{Day}
use Rattle.dates.specs.Years.{year_of, month_of, place_of}
use Rattle.dates.specs.Civil.{possible, day_number, day_answer, civil_answer, civil_at, earlier}
use Rattle.dates.proofs.Facts.{parts, Given, given_year, given_month, given_place, given_top, year_order, month_order, place_order}

-- a day's civil date is possible, and its number is the day
there : (n : ℕ) → n ≤ 109572 → day_answer (civil_at n) ≡ Ok (record { 0 = n })
there n h =
    let p = parts n h in
    let y : 1900 + year_of n - 1900 ≡ year_of n = omega arith in
    let m : month_of n + 1 - 1 ≡ month_of n = omega arith in
    let d : place_of n + 1 - 1 ≡ place_of n = omega arith in
    grind (arith, nat_tests)

pub day_civil_day : (d : Day) (c : CivilDate) → civil_answer d ≡ Ok c → day_answer c ≡ Ok d
day_civil_day d c e = grind (arith, nat_tests, there d.0)

-- a possible civil date has the parts of its number
pub parted : (y m d : ℕ) → possible y m d ≡ true → Given (y - 1900) (m - 1) (d - 1) (day_number y m d)
parted y m d t =
    let e : 1900 + (y - 1900) ≡ y = grind (arith, nat_tests) in
    record { year = grind (arith, nat_tests); month = grind (arith, nat_tests); place = rw e (grind (arith, nat_tests)); sum = rw e refl }

back : (c : CivilDate) → possible c.year c.month c.day ≡ true
    → civil_answer (record { 0 = day_number c.year c.month c.day }) ≡ Ok c
back c t =
    let n : ℕ = day_number c.year c.month c.day in
    let g = parted c.year c.month c.day t in
    let y = given_year _ _ _ _ g in
    let m = given_month _ _ _ _ g in
    let p = given_place _ _ _ _ g in
    let h = given_top _ _ _ _ g in
    let y1 : 1900 + year_of n ≡ c.year = grind (arith, nat_tests) in
    let m1 : month_of n + 1 ≡ c.month = grind (arith, nat_tests) in
    let p1 : place_of n + 1 ≡ c.day = grind (arith, nat_tests) in
    grind (arith, nat_tests)

pub civil_day_civil : (c : CivilDate) (d : Day) → day_answer c ≡ Ok d → civil_answer d ≡ Ok c
civil_day_civil c d e = grind (arith, back c)

-- the three ways in which a date stands before another
ways : (a b : CivilDate) → earlier a b ≡ true
    → (a.year < b.year) ⊎ (((a.year ≡ b.year) × (a.month < b.month)) ⊎ ((a.year ≡ b.year) × (a.month ≡ b.month) × (a.day < b.day)))
ways a b t =
    elim (cases_lt a.year b.year) [
      | inl y ↦ inl y
      | inr y ↦ elim (cases_lt a.month b.month) [
        | inl m ↦ inr (inl (grind (arith, nat_tests), m))
        | inr m ↦ inr (inr (grind (arith, nat_tests), grind (arith, nat_tests), grind (arith, nat_tests)))
      ]
    ]

order : (a b : CivilDate) → possible a.year a.month a.day ≡ true → possible b.year b.month b.day ≡ true → earlier a b ≡ true
    → day_number a.year a.month a.day < day_number b.year b.month b.day
order a b p q t =
    let g = parted a.year a.month a.day p in
    let h = parted b.year b.month b.day q in
    elim (ways a b t) [
      | inl y ↦ year_order _ _ _ _ _ _ _ _ g h (grind (arith, nat_tests))
      | inr w ↦ elim w [
        | inl m ↦ month_order _ _ _ _ _ _ _ _ g h (grind (arith, nat_tests)) (grind (arith, nat_tests))
        | inr d ↦ place_order _ _ _ _ _ _ _ _ g h (grind (arith, nat_tests)) (grind (arith, nat_tests)) (grind (arith, nat_tests))
      ]
    ]

-- later dates have larger numbers
pub day_order : (a b : CivilDate) (d e : Day) → day_answer a ≡ Ok d → day_answer b ≡ Ok e → earlier a b ≡ true → d.0 < e.0
day_order a b d e p q t = grind (arith, nat_tests, order a b)

-- the answers of both ways, with their laws
pub day_laws : (c : CivilDate) (r : Result Day CalendarFault) → told calendar_refusal r ≡ day_answer c
    → record {
      is : told calendar_refusal r ≡ day_answer c;
      back : (d : Day) → r ≡ Ok d → civil_answer d ≡ Ok c;
      order : (b : CivilDate) (d e : Day) → r ≡ Ok d → day_answer b ≡ Ok e → earlier c b ≡ true → d.0 < e.0;
    }
day_laws c r e =
    let granted : (d : Day) → r ≡ Ok d → day_answer c ≡ Ok d = λ d q. sym e ∙ ap (told calendar_refusal) q in
    record {
      is = e;
      back = λ d q. civil_day_civil c d (granted d q);
      order = λ b d x q. day_order c b d x (granted d q);
    }

pub civil_laws : (d : Day) (r : Result CivilDate CalendarFault) → told calendar_refusal r ≡ civil_answer d
    → record { is : told calendar_refusal r ≡ civil_answer d; back : (c : CivilDate) → r ≡ Ok c → day_answer c ≡ Ok d }
civil_laws d r e = record { is = e; back = λ c q. day_civil_day d c (sym e ∙ ap (told calendar_refusal) q) }

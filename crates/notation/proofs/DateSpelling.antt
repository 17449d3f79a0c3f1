-- A text is read as the day d exactly if it is what is printed of d's civil date.
use Rattle.std.proofs.Common.{◌≡◌, ℕ, ◌+◌, ◌-◌, ◌*◌, ◌/◌, ◌%◌, ◌<◌, ◌≤◌, true, inl, inr, List, [], ◌∷◌, ◌++◌, length, get_or, take, drop, decimal, Some, Ok, Err, Option, Result, sym, refl, ap, ◌∙◌, arith}
use Rattle.std.specs.Result.{result_ok}
use Rattle.std.specs.Char.{is_ascii_digit}
use Rattle.std.proofs.lemmas.List.{take-append-drop, drop-drop, drop_more, take_all, length-take, length-drop}
use Rattle.std.proofs.lemmas.Bool.{cases_lt}
use Rattle.std.proofs.lemmas.Bool.Decides.{nat_tests}
use Rattle.std.proofs.lemmas.Fmt.{decimal_digit, decimal_step}
use Rattle.dates.specs.Civil.{day_answer, civil_answer, civil_at}
use Rattle.dates.specs.DateText.{zero_padded, date_text}
use Rattle.dates.specs.declared.civil_date.CivilDate.{CivilDate}
use Rattle.dates.specs.declared.day.Day.{Day}
use Rattle.dates.proofs.Facts.{parts, place_high}
use Rattle.dates.proofs.RoundTrip.{day_civil_day, civil_day_civil}
use Rattle.notation.specs.Readers.{Exactly}
use Rattle.notation.specs.Numerals.{digits_of}
use Rattle.notation.specs.DateTexts.{hyphened, civil_of, date_of, Dated}
use Rattle.notation.proofs.Options.{when_some, some_and, and_some}
use Rattle.notation.proofs.Spelling.{digits_some}

-- a number below 100 in two digits
abbrev two_digits : ℕ → List ℕ
two_digits n = (48 + n / 10) ∷ (48 + n % 10) ∷ []

-- a civil date digit by digit
abbrev in_digits : CivilDate → List ℕ
in_digits c = (two_digits (c.year / 100) ++ two_digits (c.year % 100)) ++ (45 ∷ (two_digits c.month ++ (45 ∷ two_digits c.day)))

-- its digits are what is printed of it
ones : (n : ℕ) → n < 10 → two_digits n ≡ 48 ∷ (48 + n) ∷ []
ones n l = let a : n / 10 ≡ 0 = omega arith in let b : n % 10 ≡ n = omega arith in rw (a, b)

tens : (n : ℕ) → 10 ≤ n → n < 100 → decimal n ≡ two_digits n
tens n l h = decimal_step n l (omega arith) ∙ ap (λ ds. ds ++ ((48 + n % 10) ∷ [])) (decimal_digit (n / 10) (omega arith))

two_padded : (n : ℕ) → n < 100 → zero_padded 2 n ≡ two_digits n
unfolding zero_padded
two_padded n h = elim (cases_lt n 10) [ inl l ↦ rw (decimal_digit n l, ones n l) | inr g ↦ rw (tens n g h) ]

year_padded : (n : ℕ) → 1000 ≤ n → n < 10000 → zero_padded 4 n ≡ two_digits (n / 100) ++ two_digits (n % 100)
unfolding zero_padded
year_padded n l h =
    let a = decimal_step n (omega arith) (omega arith) in
    let b = decimal_step (n / 10) (omega arith) (omega arith) in
    let c = tens (n / 10 / 10) (omega arith) (omega arith) in
    let d : n / 10 / 10 ≡ n / 100 = omega arith in
    let e : n / 10 % 10 ≡ n % 100 / 10 = omega arith in
    let f : n % 10 ≡ n % 100 % 10 = omega arith in
    rw (a, b, c, d, e, f)

printed : (d : ℕ) → d ≤ 109572 → date_text (civil_at d) ≡ in_digits (civil_at d)
printed d h =
    let p = parts d h in
    let day = place_high d h in
    let c : CivilDate = civil_at d in
    let y = year_padded c.year (omega arith) (omega arith) in
    let m = two_padded c.month (omega arith) in
    let n = two_padded c.day (omega arith) in
    rw (y, m, n)

-- what is printed is read
digit : (k : ℕ) → k < 10 → is_ascii_digit (48 + k) ≡ true
digit k h = grind (arith, nat_tests)

two_read : (n : ℕ) → n < 100 → digits_of (two_digits n) ≡ Some n
two_read n h =
    let a = digit (n / 10) (omega arith) in
    let b = digit (n % 10) (omega arith) in
    let v : (0 + (48 + n / 10 - 48)) * 10 + (48 + n % 10 - 48) ≡ n = omega arith in
    simp (a, b, v)

four_read : (n : ℕ) → n < 10000 → digits_of (two_digits (n / 100) ++ two_digits (n % 100)) ≡ Some n
four_read n h =
    let a = digit (n / 100 / 10) (omega arith) in
    let b = digit (n / 100 % 10) (omega arith) in
    let c = digit (n % 100 / 10) (omega arith) in
    let d = digit (n % 100 % 10) (omega arith) in
    let v : (((0 + (48 + n / 100 / 10 - 48)) * 10 + (48 + n / 100 % 10 - 48)) * 10 + (48 + n % 100 / 10 - 48)) * 10 + (48 + n % 100 % 10 - 48) ≡ n = omega arith in
    simp (a, b, c, d, v)

written : (d : Day) → d.0 ≤ 109572 → date_of (date_text (civil_at d.0)) ≡ Some d
written d h =
    let c : CivilDate = civil_at d.0 in
    let p = parts d.0 h in
    let day = place_high d.0 h in
    let same : civil_answer d ≡ Ok c = grind (arith, nat_tests) in
    let civil : civil_of (in_digits c) ≡ Some c = and_some _ (four_read c.year (omega arith)) ∙ and_some _ (two_read c.month (omega arith)) ∙ and_some _ (two_read c.day (omega arith)) in
    ap date_of (printed d.0 h) ∙ and_some _ civil ∙ ap result_ok (day_civil_day d c same)

-- what is read is what is printed
two_back : (bs : List ℕ) (n : ℕ) → length bs ≡ 2 → digits_of bs ≡ Some n → bs ≡ two_digits n
two_back [] n l e = absurd (omega arith)
two_back (a ∷ []) n l e = absurd (omega arith)
two_back (a ∷ (b ∷ [])) n l e =
    let p = digits_some (a ∷ (b ∷ [])) n e in
    let x : a ≡ 48 + n / 10 = grind (arith, nat_tests) in
    let y : b ≡ 48 + n % 10 = grind (arith, nat_tests) in
    cc
two_back (a ∷ (b ∷ (c ∷ cs))) n l e = absurd (omega arith)

four_back : (bs : List ℕ) (n : ℕ) → length bs ≡ 4 → digits_of bs ≡ Some n → bs ≡ two_digits (n / 100) ++ two_digits (n % 100)
four_back [] n l e = absurd (omega arith)
four_back (a ∷ []) n l e = absurd (omega arith)
four_back (a ∷ (b ∷ [])) n l e = absurd (omega arith)
four_back (a ∷ (b ∷ (c ∷ []))) n l e = absurd (omega arith)
four_back (a ∷ (b ∷ (c ∷ (d ∷ [])))) n l e =
    let p = digits_some (a ∷ (b ∷ (c ∷ (d ∷ [])))) n e in
    let x : a ≡ 48 + n / 100 / 10 = grind (arith, nat_tests) in
    let y : b ≡ 48 + n / 100 % 10 = grind (arith, nat_tests) in
    let z : c ≡ 48 + n % 100 / 10 = grind (arith, nat_tests) in
    let w : d ≡ 48 + n % 100 % 10 = grind (arith, nat_tests) in
    cc
four_back (a ∷ (b ∷ (c ∷ (d ∷ (f ∷ fs))))) n l e = absurd (omega arith)

-- the ten bytes, by their parts
ten : (bs : List ℕ) → length bs ≡ 10 → get_or bs 4 0 ≡ 45 → get_or bs 7 0 ≡ 45
    → bs ≡ take 4 bs ++ (45 ∷ (take 2 (drop 5 bs) ++ (45 ∷ take 2 (drop 8 bs))))
ten bs l p q =
    let a = take-append-drop 4 bs in
    let b = drop_more bs 4 0 (omega arith) in
    let c = take-append-drop 2 (drop 5 bs) in
    let d = drop-drop 2 5 bs in
    let e = drop_more bs 7 0 (omega arith) in
    let f = take_all 2 (drop 8 bs) (simp length-drop (omega arith)) in
    cc

civil_back : (bs : List ℕ) (c : CivilDate) → civil_of bs ≡ Some c → bs ≡ in_digits c
civil_back bs c e =
    let w = when_some (hyphened bs) _ c e in
    let t = w.0 in
    let y = some_and (digits_of (take 4 bs)) _ c w.1 in
    let m = some_and (digits_of (take 2 (drop 5 bs))) _ c y.2 in
    let d = some_and (digits_of (take 2 (drop 8 bs))) _ c m.2 in
    let l : length bs ≡ 10 = grind (arith, nat_tests) in
    let text = ten bs l (grind (arith, nat_tests)) (grind (arith, nat_tests)) in
    let a = four_back (take 4 bs) y.0 (simp length-take (rw l refl)) y.1 in
    let b = two_back (take 2 (drop 5 bs)) m.0 (simp (length-take, length-drop) (rw l refl)) m.1 in
    let f = two_back (take 2 (drop 8 bs)) d.0 (simp (length-take, length-drop) (rw l refl)) d.1 in
    let same = d.2 in
    let whole : bs ≡ in_digits (record { year = y.0; month = m.0; day = d.0 }) = cc in
    whole ∙ ap in_digits (cc)

ok_some : {A E : Type 0} (r : Result A E) (x : A) → result_ok r ≡ Some x → r ≡ Ok x
ok_some (Ok a) x e = cc
ok_some (Err f) x e = cc

read_back : (bs : List ℕ) (d : Day) → date_of bs ≡ Some d → Dated bs d
read_back bs d e =
    let c = some_and (civil_of bs) _ d e in
    let back = civil_day_civil c.0 d (ok_some (day_answer c.0) d c.2) in
    let low : d.0 ≤ 109572 = grind (arith, nat_tests) in
    let same : c.0 ≡ civil_at d.0 = grind (arith, nat_tests) in
    (low, civil_back bs c.0 c.1 ∙ ap in_digits same ∙ sym (printed d.0 low))

pub date_exactly : (bs : List ℕ) (r : Option Day) → r ≡ date_of bs → (d : Day) → Exactly (r ≡ Some d) (Dated bs d)
date_exactly bs r e d = (λ s. read_back bs d (sym e ∙ s), λ s. e ∙ ap date_of s.1 ∙ written d s.0)

-- The shifts of a bond's anchor lie in order.
use Rattle.std.specs.Option.{MatchOption}
use Rattle.std.specs.Bool.{then_some}
use Rattle.std.proofs.Common.{sym, refl, ◌∙◌, Option, ◌≡◌, ℕ, ◌+◌, ◌-◌, ◌*◌, ◌<◌, ◌≤◌, Bool, true, false, cond, eqb, ◌⊎◌, Some, None, inl, inr, mul-le-mul_right, arith}
use native.Mathlib.Nat.{mul-lt-mul_of_pos_left}
use Rattle.std.proofs.lemmas.Option.{cond_some}
use Rattle.std.proofs.lemmas.Bool.Decides.{nat_tests}
use Rattle.std.proofs.lemmas.Bool.{cases_lt, cases_Bool}
use Rattle.dates.specs.Years.{place_of}
use Rattle.dates.specs.Months.{month_no, cut_to}
use Rattle.dates.proofs.MonthShifts.{cut_rises, stands, in_first, too_late, month_top}
use Rattle.bonds.specs.declared.terms.Terms.{Terms}
use Rattle.bonds.specs.Rolls.{is_back, anchor, other_end, place, shifted, between}
use Rattle.bonds.specs.Reached.{month_from, reached, shift_answer, regular_answer}

pub shift_back : (t : Terms) (k : ℕ) → is_back t ≡ true → shifted t k ≡ cut_to (month_no t.maturity - t.months * k) (place t)
unfolding shifted
shift_back t k b = rw b

pub shift_forth : (t : Terms) (k : ℕ) → is_back t ≡ false → shifted t k ≡ cut_to (month_no t.effective + t.months * k) (place t)
unfolding shifted
shift_forth t k b = rw b

farther : (t : Terms) (j k : ℕ) → j < k → t.months * j < t.months * k
farther t j k h = mul-lt-mul_of_pos_left h (omega (arith, t.some))

-- counted forward, shifts rise from the effective day on
pub forth_rises : (t : Terms) (j k : ℕ) → is_back t ≡ false → j < k → shifted t j < shifted t k
forth_rises t j k b h = rw (shift_forth t j b, shift_forth t k b) (cut_rises _ _ (place t) (place t) (omega (arith, farther t j k h)))

pub forth_after : (t : Terms) (k : ℕ) → is_back t ≡ false → 1 ≤ k → t.effective < shifted t k
forth_after t k b h =
    let q = month_no t.effective in
    let e = stands t.effective (omega (arith, t.rising, t.late)) in
    let z : t.months * 0 ≡ 0 = omega arith in
    let r = cut_rises q (q + t.months * k) (place_of t.effective) (place t) (omega (arith, farther t 0 k h)) in
    rw (shift_forth t k b) (omega (arith, e, r))

-- counted back past January 1900, one is too early
pub back_out : (t : Terms) (k : ℕ) → is_back t ≡ true → month_no t.maturity ≤ t.months * k → shifted t k ≤ 30
back_out t k b h = let z : month_no t.maturity - t.months * k ≡ 0 = omega arith in rw (shift_back t k b, z) (in_first (place t))

-- counted back, they fall from maturity on, or are too early
pub back_falls : (t : Terms) (j k : ℕ) → is_back t ≡ true → j < k → (shifted t k < shifted t j) ⊎ (shifted t k ≤ 30)
back_falls t j k b h =
    let q = month_no t.maturity in
    elim (cases_lt (q - t.months * k) (q - t.months * j)) [
      | inl lt ↦ inl (rw (shift_back t j b, shift_back t k b) (cut_rises _ _ (place t) (place t) lt))
      | inr ge ↦ inr (back_out t k b (omega (arith, farther t j k h)))
    ]

pub back_before : (t : Terms) (k : ℕ) → is_back t ≡ true → 1 ≤ k → shifted t k < t.maturity
back_before t k b h =
    let q = month_no t.maturity in
    let e = stands t.maturity (omega (arith, t.late)) in
    let z : t.months * 0 ≡ 0 = omega arith in
    elim (cases_lt (q - t.months * k) q) [
      | inl lt ↦ (let r = cut_rises _ _ (place t) (place_of t.maturity) lt in rw (shift_back t k b) (omega (arith, e, r)))
      | inr ge ↦ omega (arith, back_out t k b (omega (arith, farther t 0 k h)), t.early, t.rising)
    ]

-- a shift that is not between is followed by others that are not
pub fails_on : (t : Terms) (c j : ℕ) → 1 ≤ c → c < j → between t (shifted t c) ≡ false → between t (shifted t j) ≡ false
fails_on t c j h l q =
    elim (cases_Bool (is_back t)) [
      | inl b ↦
          (let x = back_before t c b h in
          elim (back_falls t c j b l) [
            | inl y ↦ grind (arith, nat_tests)
            | inr y ↦ grind (arith, nat_tests, t.early)
          ])
      | inr b ↦
          (let x = forth_after t c b h in
          let y = forth_rises t c j b l in
          grind (arith, nat_tests))
    ]

-- a shift out of the calendars is neither between nor the other end
pub record Outside (t : Terms) (k : ℕ) : Type 0 where
  pub between : between t (shifted t k) ≡ false
  pub end : eqb (shifted t k) (other_end t) ≡ false

too_early : (t : Terms) (k : ℕ) → shifted t k ≤ 30 → Outside t k
too_early t k h = record { between = grind (arith, nat_tests, t.early); end = grind (arith, nat_tests, t.early, t.rising) }

past_end : (t : Terms) (k : ℕ) → 109573 ≤ shifted t k → Outside t k
past_end t k h = record { between = grind (arith, nat_tests, t.late); end = grind (arith, nat_tests, t.late, t.rising) }

forth_out : (t : Terms) (k : ℕ) → is_back t ≡ false → 3600 ≤ month_no t.effective + t.months * k → 109573 ≤ shifted t k
forth_out t k b h = rw (shift_forth t k b) (too_late _ (place t) h)

pub outside : (t : Terms) (k : ℕ) → reached t k ≡ false → Outside t k
outside t k h =
    elim (cases_Bool (is_back t)) [
      | inl b ↦ too_early t k (back_out t k b (grind (arith, nat_tests)))
      | inr b ↦ past_end t k (forth_out t k b (grind (arith, nat_tests)))
    ]

-- no shift is no regular date
pub none_outside : (t : Terms) (k : ℕ) → None ≡ shift_answer t k → Outside t k
none_outside t k e = outside t k (grind arith)

-- the shift, if it passes the test of lying between
pub regular_is : (t : Terms) (k : ℕ) (o : Option ℕ) (r : Option ℕ) (P : ℕ → Bool → Type 0) → ((x : ℕ) (b : Bool) → P x b → b ≡ between t x)
    → o ≡ shift_answer t k → MatchOption o (r ≡ None) (λ x. (b : Bool) × P x b × (r ≡ then_some b x)) → r ≡ regular_answer t k
regular_is t k None r P h e m = m ∙ sym (rw (none_outside t k e).between)
regular_is t k (Some x) r P h e m = let p = cond_some _ _ _ (sym e) in m.2 ∙ rw (h x m.0 m.1, ← p.1) (go (between t (shifted t k)))
  where
    go : (b : Bool) → then_some b (shifted t k) ≡ cond b (Some (shifted t k)) None
    go true = refl
    go false = refl

-- the month that is reached, with the place in it, is the shift
pub shift_is : (t : Terms) (k m : ℕ) → Some m ≡ month_from t (month_no (anchor t)) (t.months * k) → Some (cut_to m (place t)) ≡ shift_answer t k
unfolding shifted
shift_is t k m e = elim (cases_Bool (is_back t)) [ inl b ↦ grind (arith, nat_tests) | inr b ↦ grind (arith, nat_tests) ]

-- past 3600 periods none lies between
pub far_out : (t : Terms) (k : ℕ) → 3600 < k → between t (shifted t k) ≡ false
far_out t k h =
    let m : 1 * k ≤ t.months * k = mul-le-mul_right k t.some in
    let y = month_top t.maturity (omega (arith, t.late)) in
    elim (cases_Bool (is_back t)) [
      | inl b ↦ (too_early t k (back_out t k b (omega arith))).between
      | inr b ↦ (past_end t k (forth_out t k b (omega arith))).between
    ]

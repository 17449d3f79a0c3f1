-- The search for a fixing: the days before an adjusted one, the good ones among them, and the one asked for.
use Rattle.std.proofs.Common.{◌≡◌, ℕ, zero, suc, ◌+◌, ◌-◌, ◌≤◌, Bool, true, false, cond, ◌&&◌, leb, eqb, List, ◌∷◌, map, length, Some, None, Option, sym, refl, ap, ◌∙◌, arith, subst, inl, inr, ◌⊎◌}
use Rattle.std.proofs.lemmas.Bool.{ne_eqb}
use Rattle.std.proofs.lemmas.Iterator.{YieldsList}
use Rattle.std.proofs.lemmas.Iterator.Consumers.{YieldsList-from_shown}
use Rattle.std.proofs.iter.runs.Sources.{nat_range_inclusive_steps}
use Rattle.std.specs.List.{range_with_len, filter, slice_get}
use Rattle.std.specs.Option.{option_map}
use Rattle.std.specs.Range.{range_inclusive_start, range_inclusive_end, range_inclusive_exhausted, range_inclusive_len}
use Rattle.std.specs.declared.ops.RangeInclusive.{RangeInclusive}
use Rattle.calendars.proofs.GoodDays.{within}
use Rattle.dates.specs.declared.day.Day.{Day}
use Rattle.generation.specs.Rolls.{nth_back}
use Rattle.generation.specs.Views.{number_of}

-- how many numbers an inclusive range has left
abbrev left_in : RangeInclusive ℕ → ℕ
left_in s = range_inclusive_len (λ x y. y - x) (range_inclusive_start s) (range_inclusive_end s) (range_inclusive_exhausted s)

one_more : (a n b m x : ℕ) → m + 1 ≡ n → x ≡ a → (m ≡ 0) ⊎ (b ≡ a + 1) → range_with_len a n ≡ x ∷ range_with_len b m
one_more a n b m x e f (inl z) = let w : n ≡ 1 = omega arith in rw (w, f, z) refl
one_more a n b m x e f (inr s) = let w : n ≡ suc m = omega arith in rw (w, f, s) refl

-- an inclusive range gives its numbers in order
given : (s : RangeInclusive ℕ) → YieldsList nat_range_inclusive_steps (λ x. x) s (range_with_len (range_inclusive_start s) (left_in s))
given =
    YieldsList-from_shown nat_range_inclusive_steps (λ x. x) (λ t. range_with_len (range_inclusive_start t) (left_in t))
    (λ t u p. ap (λ k. length (range_with_len (range_inclusive_start t) k)) p.1.0)
    (λ t x u p. one_more (range_inclusive_start t) (left_in t) (range_inclusive_start u) (left_in u) x p.1.1 p.1.0 (go u (range_inclusive_exhausted u) refl p.1.2))
  where
    go : (u : RangeInclusive ℕ) {b : ℕ} (x : Bool) → range_inclusive_exhausted u ≡ x → (range_inclusive_exhausted u ≡ false → range_inclusive_start u ≡ b) → (left_in u ≡ 0) ⊎ (range_inclusive_start u ≡ b)
    go u true e h = inl (ap (range_inclusive_len (λ x y. y - x) (range_inclusive_start u) (range_inclusive_end u)) e)
    go u false e h = inr (h e)

pub inclusive : {s : RangeInclusive ℕ} (a b n : ℕ) → range_inclusive_start s ≡ a → range_inclusive_end s ≡ b → range_inclusive_exhausted s ≡ false
    → (b - a) + 1 - (a - b) ≡ n → YieldsList nat_range_inclusive_steps (λ x. x) s (range_with_len a n)
inclusive {s} a b n e f x m =
    let left : left_in s ≡ n = (λ i. range_inclusive_len (λ x y. y - x) (e i) (f i) (x i)) ∙ m in
    subst (λ (p : ℕ × ℕ). YieldsList nat_range_inclusive_steps (λ x. x) s (range_with_len p.0 p.1)) (λ i. (e i, left i)) (given s)

-- with lag 0 no day is looked for
pub no_lag : (good : ℕ → Bool) (w day : ℕ) → nth_back good w day 0 ≡ None
unfolding nth_back
no_lag good zero day = refl
no_lag good (suc w) day = rw (no_lag good w (day - 1)) (go (good (day - 1)))
  where
    go : (b : Bool) → ◌≡◌ {A = Option ℕ} (cond b None None) None
    go true = refl
    go false = refl

-- so many days before a day
abbrev pub before : ℕ → ℕ → Day
before day back = record { 0 = day - back }

-- the days that calendars know and that are good
abbrev pub good_one : (ℕ → Bool) → Day → Bool
good_one good d = leb d.0 109572 && good d.0

module _ (good : ℕ → Bool) (day : ℕ) (known : day ≤ 109572) where
  -- the good days among those from s days back on, w of them
  listed_from : (w s n : ℕ) → 1 ≤ s
      → option_map number_of (slice_get (filter (good_one good) (map (before day) (range_with_len s w))) n) ≡ nth_back good w (day + 1 - s) (n + 1)
  unfolding nth_back
  listed_from zero s n h = refl
  listed_from (suc w) s n h =
      let e : day + 1 - s - 1 ≡ day - s = omega arith in
      let f : day + 1 - (s + 1) ≡ day - s = omega arith in
      rw (e, within (day - s) _ _ (omega arith) (refl {a = good_one good (before day s)}))
      (go n (good (day - s)) (λ m. listed_from w (s + 1) m (omega arith) ∙ ap (λ d. nth_back good w d (m + 1)) f))
    where
      rest : List Day
      rest = filter (good_one good) (map (before day) (range_with_len (s + 1) w))

      go : (n : ℕ) (b : Bool) → ((m : ℕ) → option_map number_of (slice_get rest m) ≡ nth_back good w (day - s) (m + 1))
          → option_map number_of (slice_get (cond b (before day s ∷ rest) rest) n)
          ≡ cond b (cond (eqb (n + 1) 1) (Some (day - s)) (nth_back good w (day - s) (n + 1 - 1))) (nth_back good w (day - s) (n + 1))
      go zero true r = refl
      go (suc n) true r =
          let e : suc n + 1 - 1 ≡ n + 1 = omega arith in
          rw (ne_eqb (suc n + 1) 1 (λ z. omega arith), e) (r n)
      go n false r = r n

  -- the n-th of all of them
  pub listed : (w n lag : ℕ) → lag ≡ n + 1 → option_map number_of (slice_get (filter (good_one good) (map (before day) (range_with_len 1 w))) n) ≡ nth_back good w day lag
  listed w n lag e = listed_from w 1 n (omega arith) ∙ (let f : day + 1 - 1 ≡ day = omega arith in λ i. nth_back good w (f i) (sym e i))

-- A list whose days grow a run from u at its two ends: what any convention of such lists keeps.
use Rattle.std.specs.Prelude.{◌≡◌, ℕ, zero, suc, ◌+◌, ◌-◌, ◌<◌, ◌≤◌, min, Bool, true, false, cond, ◌⊎◌, List, [], ◌∷◌, length, take, Some, ◌≢◌, slice_index, slice_index_or, refl}
use Rattle.std.proofs.Common.{sym, ◌∙◌, ap, inl, inr, arith, length-take}
use Rattle.std.proofs.lemmas.Bool.{both_ways, cases_lt, cases_eq}
use Rattle.std.proofs.lemmas.List.{get_or-take}
use Rattle.conventions.specs.Tries.{first_good, Among, Run}

-- low n is the low end of the first n days; each further day is put on at one end
pub record Grown (u : ℕ) (ds : List ℕ) (low : ℕ → ℕ) : Type 0 where
  pub some : 0 < length ds
  pub start : slice_index_or ds 0 0 ≡ u
  pub one : low 1 ≡ u
  pub more : (n : ℕ) → 0 < n → n < length ds → ((low (suc n) ≡ low n) × (slice_index ds n ≡ low n + n)) ⊎ ((suc (low (suc n)) ≡ low n) × (slice_index ds n ≡ low (suc n)))

-- the first n days are those from low n on
pub record Spread (ds : List ℕ) (low n : ℕ) : Type 0 where
  pub whole : (d : ℕ) → low ≤ d → d < low + n → (k : ℕ) × (k < n) × (slice_index ds k ≡ d)
  pub only : (k : ℕ) → k < n → (low ≤ slice_index ds k) × (slice_index ds k < low + n)

wider : {ds : List ℕ} {a b n : ℕ} → Spread ds a n → ((b ≡ a) × (slice_index ds n ≡ a + n)) ⊎ ((suc b ≡ a) × (slice_index ds n ≡ b)) → Spread ds b (suc n)
wider {ds} {a} {b} {n} s w = record { whole = all; only = each }
  where
    all : (d : ℕ) → b ≤ d → d < b + suc n → (k : ℕ) × (k < suc n) × (slice_index ds k ≡ d)
    all d l h = elim (cases_eq (slice_index ds n) d) [
      | inl e ↦ (n, omega arith, e)
      | inr ne ↦ (let z : (a ≤ d) × (d < a + n) = elim w [ inl t ↦ (omega arith, omega arith) | inr t ↦ (omega arith, omega arith) ] in let q = s.whole d z.0 z.1 in (q.0, omega (arith, q.1), q.2))
    ]

    each : (k : ℕ) → k < suc n → (b ≤ slice_index ds k) × (slice_index ds k < b + suc n)
    each k h = elim (cases_lt k n) [
      | inl lt ↦ (let q = s.only k lt in elim w [ inl t ↦ omega arith | inr t ↦ omega arith ])
      | inr ge ↦ (let e : k ≡ n = omega arith in rw e (elim w [ inl t ↦ omega arith | inr t ↦ omega arith ]))
    ]

pub spread : {u : ℕ} {ds : List ℕ} {low : ℕ → ℕ} → Grown u ds low → (n : ℕ) → n < length ds → Spread ds (low (suc n)) (suc n)
spread {u} {ds} {low} g zero h = record { whole = λ d l t. (0, omega arith, omega (arith, g.start, g.one)); only = λ k l. (let e : k ≡ 0 = omega arith in rw e (omega (arith, g.start, g.one))) }
spread {u} {ds} {low} g (suc n) h = wider (spread g n (omega arith)) (g.more (suc n) (omega arith) h)

-- the first day is u
pub begins : (u : ℕ) (ds : List ℕ) → 0 < length ds → slice_index ds 0 ≡ u → take 1 ds ≡ u ∷ []
begins u [] h e = absurd (let z : ⊥ = omega arith in z)
begins u (d ∷ ds) h e = ap (λ x. x ∷ []) e

-- the first n days are different and form an unbroken run
pub runs : {u : ℕ} {ds : List ℕ} {low : ℕ → ℕ} → Grown u ds low → (n : ℕ) → Run (take n ds)
runs {u} {ds} {low} g zero = record { low = 0; whole = λ d l h. absurd (let z : ⊥ = omega arith in z); only = λ d m. absurd (let z : ⊥ = omega (arith, m.1) in z); different = λ j k h l e. omega arith }
runs {u} {ds} {low} g (suc n) = record { low = low (suc m); whole = all; only = each; different = apart }
  where
    m : ℕ
    m = min n (length ds - 1)

    len : length (take (suc n) ds) ≡ suc m
    len = length-take (suc n) ds ∙ omega (arith, g.some)

    at : (k : ℕ) → k < suc m → slice_index (take (suc n) ds) k ≡ slice_index ds k
    at k h = get_or-take (suc n) ds k 0 (omega arith)

    s : Spread ds (low (suc m)) (suc m)
    s = spread g m (omega (arith, g.some))

    all : (d : ℕ) → low (suc m) ≤ d → d < low (suc m) + length (take (suc n) ds) → Among d (take (suc n) ds)
    all d l h = let q = s.whole d l (omega (arith, len)) in (q.0, omega (arith, len, q.1), at q.0 q.1 ∙ q.2)

    each : (d : ℕ) → Among d (take (suc n) ds) → (low (suc m) ≤ d) × (d < low (suc m) + length (take (suc n) ds))
    each d a = let h : a.0 < suc m = omega (arith, len, a.1) in omega (arith, s.only a.0 h, at a.0 h, a.2, len)

    apart : (j k : ℕ) → j < k → k < length (take (suc n) ds) → slice_index (take (suc n) ds) j ≢ slice_index (take (suc n) ds) k
    apart j zero h l e = omega arith
    apart j (suc k) h l e =
        let b : suc k < suc m = omega (arith, len) in
        let o = (spread g k (omega arith)).only j h in
        let ej = at j (omega arith) in
        let ek = at (suc k) b in
        elim (g.more (suc k) (omega arith) (omega arith)) [ inl t ↦ omega arith | inr t ↦ omega arith ]

-- x is the first good day: it stands at place, and no day before it is good
pub record Found (good : ℕ → Bool) (ds : List ℕ) (x : ℕ) : Type 0 where
  pub place : ℕ
  pub within : place < length ds
  pub here : slice_index_or ds place 0 ≡ x
  pub fine : good x ≡ true
  pub before : (j : ℕ) → j < place → good (slice_index ds j) ≡ false

further : {good : ℕ → Bool} {d : ℕ} {ds : List ℕ} {x : ℕ} → good d ≡ false → Found good ds x → Found good (d ∷ ds) x
further {good} {d} {ds} {x} bad f = record { place = suc f.place; within = omega arith; here = f.here; fine = f.fine; before = bef }
  where
    bef : (j : ℕ) → j < suc f.place → good (slice_index (d ∷ ds) j) ≡ false
    bef zero h = bad
    bef (suc j) h = f.before j (omega arith)

pub found : (good : ℕ → Bool) (ds : List ℕ) (x : ℕ) → first_good good ds ≡ Some x → Found good ds x
unfolding first_good
found good [] x e = let z : ◌≡◌ {A = ℕ} 0 1 = cc in absurd (let w : ⊥ = omega arith in w)
found good (d ∷ ds) x e = go (good d) refl e (found good ds x)
  where
    go : (b : Bool) → good d ≡ b → cond b (Some d) (first_good good ds) ≡ Some x → (first_good good ds ≡ Some x → Found good ds x) → Found good (d ∷ ds) x
    go true g e rest = let s : d ≡ x = cc in record { place = 0; within = omega arith; here = s; fine = ap good (sym s) ∙ g; before = λ j h. absurd (let w : ⊥ = omega arith in w) }
    go false g e rest = further g (rest e)

-- another good day is not among the days up to the first good one
outside : {good : ℕ → Bool} {ds : List ℕ} {x : ℕ} {low : ℕ} (f : Found good ds x) → Spread ds low (suc f.place) → (y : ℕ) → good y ≡ true → (x ≢ y) → low ≤ y → y < low + suc f.place → ⊥
outside {good} {ds} {x} f s y fine ne l h =
    let q = s.whole y l h in
    elim (cases_lt q.0 f.place) [
      | inl lt ↦ both_ways (good y) (ap good (sym q.2) ∙ f.before q.0 lt) fine
      | inr ge ↦ (let e : q.0 ≡ f.place = omega (arith, q.1) in ne (sym f.here ∙ ap (λ k. slice_index ds k) (sym e) ∙ q.2))
    ]

-- first good days are in order, if no first days of v begin and end before some first days of u
pub ordered : {u v : ℕ} {ds es : List ℕ} {low mow : ℕ → ℕ} → Grown u ds low → Grown v es mow
    → ((m n : ℕ) → m < length ds → n < length es → mow (suc n) < low (suc m) → mow (suc n) + n < low (suc m) + m → ⊥)
    → (good : ℕ → Bool) (a b : ℕ) → first_good good ds ≡ Some a → first_good good es ≡ Some b → a ≤ b
ordered {u} {v} {ds} {es} {low} {mow} g h cross good a b p q = elim (cases_lt b a) [ inl lt ↦ absurd (clash lt) | inr ge ↦ ge ]
  where
    f : Found good ds a
    f = found good ds a p

    e : Found good es b
    e = found good es b q

    s : Spread ds (low (suc f.place)) (suc f.place)
    s = spread g f.place f.within

    t : Spread es (mow (suc e.place)) (suc e.place)
    t = spread h e.place e.within

    clash : b < a → ⊥
    clash lt =
        let x = s.only f.place (omega arith) in
        let y = t.only e.place (omega arith) in
        let fa = f.here in
        let eb = e.here in
        let l : b < low (suc f.place) = elim (cases_lt b (low (suc f.place))) [ inl z ↦ z | inr z ↦ absurd (outside f s b e.fine (λ r. omega arith) z (omega arith)) ] in
        let r : mow (suc e.place) + e.place < a = elim (cases_lt (mow (suc e.place) + e.place) a) [ inl z ↦ z | inr z ↦ absurd (outside e t a f.fine (λ r. omega arith) (omega arith) (omega arith)) ] in
        cross f.place e.place f.within e.within (omega arith) (omega arith)

-- The shifts that pass, where those up to one pass and those past it fail.
use Rattle.std.proofs.Common.{◌≡◌, ℕ, zero, suc, ◌-◌, ◌<◌, ◌≤◌, Bool, true, false, List, [], ◌∷◌, length, get_or, take, drop, sym, refl, ap, ◌∙◌, inl, inr, arith}
use Rattle.std.proofs.lemmas.Bool.{cases_lt, cases_Bool, both_ways, false≢true}
use Rattle.std.proofs.lemmas.List.{length_push, get_or_push, get_or_append_left, take_at}
use Rattle.bonds.specs.Rolls.{joined, passing}

-- all the shifts by 1 to n periods, rising
unfoldable pub whole : Bool → (ℕ → ℕ) → ℕ → List ℕ
whole back f zero = []
whole back f (suc n) = joined back (f (suc n)) (whole back f n)

pub pass_all : (back : Bool) (ok : ℕ → Bool) (f : ℕ → ℕ) (n : ℕ) → ((j : ℕ) → 1 ≤ j → j ≤ n → ok (f j) ≡ true) → passing back ok f n ≡ whole back f n
unfolding passing whole
pass_all back ok f zero h = refl
pass_all back ok f (suc n) h = rw (h (suc n) (omega arith) (omega arith)) (ap (joined back (f (suc n))) (pass_all back ok f n (λ j a b. h j a (omega arith))))

pub pass_none : (back : Bool) (ok : ℕ → Bool) (f : ℕ → ℕ) (c n : ℕ) → c ≤ n → ((j : ℕ) → c < j → j ≤ n → ok (f j) ≡ false) → passing back ok f n ≡ passing back ok f c
unfolding passing
pass_none back ok f c zero l h = let e : c ≡ 0 = omega arith in rw e
pass_none back ok f c (suc n) l h =
    elim (cases_lt c (suc n)) [
      | inl lt ↦ rw (h (suc n) lt (omega arith)) (pass_none back ok f c n (omega arith) (λ j a b. h j a (omega arith)))
      | inr ge ↦ (let e : c ≡ suc n = omega arith in ap (passing back ok f) (sym e))
    ]

pub whole_length : (back : Bool) (f : ℕ → ℕ) (n : ℕ) → length (whole back f n) ≡ n
unfolding whole
whole_length back f zero = refl
whole_length true f (suc n) = ap suc (whole_length true f n)
whole_length false f (suc n) = length_push (whole false f n) (f (suc n)) ∙ omega (arith, whole_length false f n)

pub back_at : (b : Bool) (f : ℕ → ℕ) (n i : ℕ) → b ≡ true → i < n → get_or (whole b f n) i 0 ≡ f (n - i)
unfolding whole
back_at false f n i q h = absurd (false≢true q)
back_at true f zero i q h = absurd (let z : ⊥ = omega arith in z)
back_at true f (suc n) zero q h = let e : suc n - 0 ≡ suc n = omega arith in rw e
back_at true f (suc n) (suc i) q h = let e : suc n - suc i ≡ n - i = omega arith in rw e (back_at true f n i q (omega arith))

pub forth_at : (b : Bool) (f : ℕ → ℕ) (n i : ℕ) → b ≡ false → i < n → get_or (whole b f n) i 0 ≡ f (suc i)
unfolding whole
forth_at true f n i q h = absurd (false≢true (sym q))
forth_at false f zero i q h = absurd (let z : ⊥ = omega arith in z)
forth_at false f (suc n) i q h =
    elim (cases_lt i n) [
      | inl lt ↦ get_or_append_left (whole false f n) (f (suc n) ∷ []) 0 i (omega (arith, whole_length false f n)) ∙ forth_at false f n i q lt
      | inr ge ↦ (let e : i ≡ n = omega arith in rw e (get_or_push (whole false f n) (f (suc n)) 0 n (whole_length false f n)))
    ]

pub less_first : (f : ℕ → ℕ) (n : ℕ) → drop 1 (whole true f n) ≡ whole true f (n - 1)
unfolding whole
less_first f zero = refl
less_first f (suc n) = let e : suc n - 1 ≡ n = omega arith in rw e

pub less_last : (f : ℕ → ℕ) (n : ℕ) → take (n - 1) (whole false f n) ≡ whole false f (n - 1)
unfolding whole
less_last f zero = refl
less_last f (suc n) = let e : suc n - 1 ≡ n = omega arith in rw e (take_at (whole false f n) (f (suc n) ∷ []) n (whole_length false f n))

-- up to which shift they pass, if one that fails is followed by failures
pub record Edge (ok : ℕ → Bool) (f : ℕ → ℕ) (n c : ℕ) : Type 0 where
  pub top : c ≤ n
  pub below : (j : ℕ) → 1 ≤ j → j ≤ c → ok (f j) ≡ true
  pub above : (j : ℕ) → c < j → j ≤ n → ok (f j) ≡ false

pub edge : (ok : ℕ → Bool) (f : ℕ → ℕ) → ((c j : ℕ) → 1 ≤ c → c < j → ok (f c) ≡ false → ok (f j) ≡ false) → (n : ℕ) → (c : ℕ) × Edge ok f n c
edge ok f on zero = (0, record { top = omega arith; below = λ j a b. absurd (let z : ⊥ = omega arith in z); above = λ j a b. absurd (let z : ⊥ = omega arith in z) })
edge ok f on (suc n) = go (ok (f (suc n))) refl (edge ok f on n)
  where
    up : ok (f (suc n)) ≡ true → (j : ℕ) → 1 ≤ j → j ≤ suc n → ok (f j) ≡ true
    up q j a b =
        elim (cases_Bool (ok (f j))) [
          | inl t ↦ t
          | inr z ↦ elim (cases_lt j (suc n)) [ inl l ↦ absurd (both_ways _ (on j (suc n) a l z) q) | inr g ↦ (let e : j ≡ suc n = omega arith in rw e q) ]
        ]

    go : (b : Bool) → ok (f (suc n)) ≡ b → ((c : ℕ) × Edge ok f n c) → (c : ℕ) × Edge ok f (suc n) c
    go true q p = (suc n, record { top = omega arith; below = up q; above = λ j a b. absurd (let z : ⊥ = omega arith in z) })
    go false q p =
        (p.0, record { top = omega (arith, p.1.top); below = p.1.below; above = λ j a b. elim (cases_lt n j) [ inl l ↦ (let e : j ≡ suc n = omega arith in rw e q) | inr g ↦ p.1.above j a g ] })

pub edge_passing : (back : Bool) (ok : ℕ → Bool) (f : ℕ → ℕ) (n c : ℕ) → Edge ok f n c → passing back ok f n ≡ whole back f c
edge_passing back ok f n c e = pass_none back ok f c n e.top e.above ∙ pass_all back ok f c e.below

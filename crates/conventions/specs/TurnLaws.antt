-- Up from u to an end, then back from u - 1: the family of the three conventions.
use Rattle.std.specs.Prelude.{◌≡◌, ℕ, zero, suc, ◌+◌, ◌-◌, ◌<◌, ◌≤◌, min, Bool, ◌⊎◌, List, [], ◌∷◌, length, take, Some, slice_index, refl}
use Rattle.std.proofs.Common.{◌∙◌, ap, inl, inr, arith, length-append}
use Rattle.std.proofs.lemmas.Bool.{cases_lt}
use Rattle.std.proofs.lemmas.List.{get_or_append_left, get_or-append_right}
use Rattle.conventions.specs.Tries.{Served, first_good, Among, Run}
use Rattle.conventions.specs.Turns.{upward, downward, turning}
use Rattle.conventions.specs.Growing.{Grown, begins, runs, ordered}

up_length : (n d : ℕ) → length (upward n d) ≡ n
unfolding upward
up_length zero d = refl
up_length (suc n) d = ap suc (up_length n (d + 1))

up_at : (n d k : ℕ) → k < n → slice_index (upward n d) k ≡ d + k
unfolding upward
up_at zero d k h = omega arith
up_at (suc n) d zero h = omega arith
up_at (suc n) d (suc k) h = up_at n (d + 1) k (omega arith) ∙ omega arith

down_length : (n d : ℕ) → length (downward n d) ≡ n
unfolding downward
down_length zero d = refl
down_length (suc n) d = ap suc (down_length n (d - 1))

down_at : (n d k : ℕ) → k < n → slice_index (downward n d) k ≡ d - 1 - k
unfolding downward
down_at zero d k h = omega arith
down_at (suc n) d zero h = omega arith
down_at (suc n) d (suc k) h = down_at n (d - 1) k (omega arith) ∙ omega arith

pub turn_length : (last back u : ℕ) → length (turning last back u) ≡ last + 1 - u + back
unfolding turning
turn_length last back u = omega (arith, length-append (upward (last + 1 - u) u) (downward back u), up_length (last + 1 - u) u, down_length back u)

pub turn_ahead : (last back u k : ℕ) → u + k ≤ last → slice_index (turning last back u) k ≡ u + k
unfolding turning
turn_ahead last back u k h = get_or_append_left (upward (last + 1 - u) u) (downward back u) 0 k (omega (arith, up_length (last + 1 - u) u)) ∙ up_at (last + 1 - u) u k (omega arith)

pub turn_back : (last back u k : ℕ) → u ≤ last → last < u + k → k < last + 1 - u + back → slice_index (turning last back u) k ≡ last - k
unfolding turning
turn_back last back u k s h t =
    get_or-append_right (upward (last + 1 - u) u) (downward back u) (last + 1 - u) k 0 (up_length (last + 1 - u) u) (omega arith)
    ∙ down_at back u (k - (last + 1 - u)) (omega arith) ∙ omega arith

pub turn_grown : (last back u : ℕ) → u ≤ last → back ≤ u → Grown u (turning last back u) (λ n. min u (last + 1 - n))
turn_grown last back u s t = record { some = omega (arith, turn_length last back u); start = turn_ahead last back u 0 (omega arith) ∙ omega arith; one = omega arith; more = next }
  where
    next : (n : ℕ) → 0 < n → n < length (turning last back u) → ((min u (last + 1 - suc n) ≡ min u (last + 1 - n)) × (slice_index (turning last back u) n ≡ min u (last + 1 - n) + n)) ⊎ ((suc (min u (last + 1 - suc n)) ≡ min u (last + 1 - n)) × (slice_index (turning last back u) n ≡ min u (last + 1 - suc n)))
    next n p h = elim (cases_lt last (u + n)) [
      | inl lt ↦ (let b : n < last + 1 - u + back = omega (arith, turn_length last back u) in let e = turn_back last back u n s lt b in inr (omega arith, omega arith))
      | inr ge ↦ (let e = turn_ahead last back u n ge in inl (omega arith, omega arith))
    ]

-- what a convention with a reach of 30 owes, of the days that it tries
pub record Lawful (tries : ℕ → List ℕ) : Type 0 where
  pub first : (u : ℕ) → Served u → take 1 (tries u) ≡ u ∷ []
  pub run : (u n : ℕ) → Served u → Run (take n (tries u))
  pub near : (u d : ℕ) → Served u → Among d (tries u) → (u ≤ d + 30) × (d ≤ u + 30)
  pub order : (good : ℕ → Bool) (u v a b : ℕ) → Served u → Served v → u ≤ v → first_good good (tries u) ≡ Some a → first_good good (tries v) ≡ Some b → a ≤ b

-- the end is not before u, at most 30 days after it, and never falls
pub record Ending (last : ℕ → ℕ) : Type 0 where
  pub low : (u : ℕ) → u ≤ 109207 → u ≤ last u
  pub high : (u : ℕ) → u ≤ 109207 → last u ≤ u + 30
  pub rises : (u v : ℕ) → u ≤ v → v ≤ 109207 → last u ≤ last v

pub turns : (last : ℕ → ℕ) (back : ℕ) → back ≤ 30 → Ending last → Lawful (λ u. turning (last u) back u)
turns last back few en = record {
  first = λ u s. begins u (turning (last u) back u) (grown u s).some (grown u s).start;
  run = λ u n s. runs (grown u s) n;
  near = close;
  order = λ good u v a b s t h.
      ordered (grown u s) (grown v t) (λ m n i j x y. omega (arith, en.rises u v h t.1, en.low u s.1, en.low v t.1)) good a b;
}
  where
    grown : (u : ℕ) → Served u → Grown u (turning (last u) back u) (λ n. min u (last u + 1 - n))
    grown u s = turn_grown (last u) back u (en.low u s.1) (omega arith)

    close : (u d : ℕ) → Served u → Among d (turning (last u) back u) → (u ≤ d + 30) × (d ≤ u + 30)
    close u d s m =
        let l = en.low u s.1 in
        let h = en.high u s.1 in
        let b : m.0 < last u + 1 - u + back = omega (arith, turn_length (last u) back u, m.1) in
        let e = m.2 in
        elim (cases_lt (last u) (u + m.0))
        [ inl lt ↦ omega (arith, turn_back (last u) back u m.0 l lt b) | inr ge ↦ omega (arith, turn_ahead (last u) back u m.0 ge) ]

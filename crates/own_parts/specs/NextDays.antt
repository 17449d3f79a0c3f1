-- A day and the one after it: what the convention of the two tries, and its laws.
use Rattle.std.specs.Prelude.{◌≡◌, ℕ, ◌+◌, ◌≤◌, Bool, List, [], ◌∷◌, take, Some, refl}
use Rattle.std.proofs.Common.{inl, arith}
use Rattle.conventions.specs.Tries.{Served, first_good, Among, Run}
use Rattle.conventions.specs.Growing.{Grown, spread, runs, ordered}

-- u and the day after it
abbrev pub next_day : ℕ → List ℕ
next_day u = u ∷ (u + 1) ∷ []

-- they grow upward from u: the lowest of the first n is u
grown : (u : ℕ) → Grown u (next_day u) (λ n. u)
grown u = record { some = omega arith; start = refl; one = refl; more = λ n p h. (let e : n ≡ 1 = omega arith in rw e (inl (refl, refl))) }

-- u is tried first
pub next_first : (u : ℕ) → Served u → take 1 (next_day u) ≡ u ∷ []
next_first u s = refl

-- the first n are different and leave no gap
pub next_run : (u n : ℕ) → Served u → Run (take n (next_day u))
next_run u n s = runs (grown u) n

-- none is farther away than a day
pub next_near : (u d : ℕ) → Served u → Among d (next_day u) → (u ≤ d + 1) × (d ≤ u + 1)
next_near u d s a = let o = (spread (grown u) 1 (omega arith)).only a.0 a.1 in (omega (arith, a.2), omega (arith, a.2))

-- a later day never comes to an earlier one: the days of v neither begin nor end before those of u
pub next_order : (good : ℕ → Bool) (u v a b : ℕ) → Served u → Served v → u ≤ v → first_good good (next_day u) ≡ Some a → first_good good (next_day v) ≡ Some b → a ≤ b
next_order good u v a b s t h = ordered (grown u) (grown v) (λ m n i j x y. omega arith) good a b

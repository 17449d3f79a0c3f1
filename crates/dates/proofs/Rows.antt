-- The last place of a rising row that is not above a number.
use Rattle.std.proofs.Common.{◌≡◌, ℕ, zero, suc, ◌<◌, ◌≤◌, Bool, true, false, leb, refl, inl, inr, arith}
use Rattle.std.proofs.lemmas.Bool.{leb-true, leb-false}
use Rattle.dates.specs.Years.{last_place}

-- what a place is: not above n, the row there not above x, and, unless it is n, x below the next
pub record Placed (s : ℕ → ℕ) (n x k : ℕ) : Type 0 where
  pub top : k ≤ n
  pub low : s k ≤ x
  pub high : k < n → x < s (suc k)

step : (s : ℕ → ℕ) (n x : ℕ) (b : Bool) → leb (s (suc n)) x ≡ b → (k : ℕ) → Placed s n x k
    → Placed s (suc n) x (elim b [ true ↦ suc n | false ↦ k ])
step s n x true e k p = record { top = omega arith; low = leb-true (s (suc n)) x e; high = λ h. omega arith }
step s n x false e k p = record { top = omega arith; low = p.low; high = λ h. last (leb-false (s (suc n)) x e) h }
  where
    last : x < s (suc n) → k < suc n → x < s (suc k)
    last q h = elim (Rattle.std.proofs.lemmas.Bool.cases_lt k n) [ inl lt ↦ p.high lt | inr ge ↦ (let e2 : k ≡ n = omega arith in rw e2 q) ]

pub placed : (s : ℕ → ℕ) (n x : ℕ) → s 0 ≤ x → Placed s n x (last_place s n x)
unfolding last_place
placed s zero x h = record { top = omega arith; low = h; high = λ q. omega arith }
placed s (suc n) x h = step s n x (leb (s (suc n)) x) refl (last_place s n x) (placed s n x h)

-- a row that never falls, up to n
pub rises : (s : ℕ → ℕ) (n : ℕ) → ((k : ℕ) → k < n → s k ≤ s (suc k)) → (j k : ℕ) → j ≤ k → k ≤ n → s j ≤ s k
rises s n r j zero h g = let e : j ≡ 0 = omega arith in rw e (omega arith)
rises s n r j (suc k) h g =
    elim (Rattle.std.proofs.lemmas.Bool.cases_lt k j)
    [ inl lt ↦ (let e : j ≡ suc k = omega arith in rw e (omega arith)) | inr ge ↦ omega (arith, r k (omega arith), rises s n r j k ge (omega arith)) ]

-- the place is the only one
pub only : (s : ℕ → ℕ) (n : ℕ) → ((k : ℕ) → k < n → s k ≤ s (suc k)) → (x j k : ℕ) → Placed s n x j → Placed s n x k → j ≡ k
only s n r x j k p q =
    elim (Rattle.std.proofs.lemmas.Bool.cases_order j k) [
      | inl e ↦ e
      | inr (inl lt) ↦ absurd (omega (arith, p.high (omega arith), q.low, rises s n r (suc j) k lt q.top))
      | inr (inr gt) ↦ absurd (omega (arith, q.high (omega arith), p.low, rises s n r (suc k) j gt p.top))
    ]

-- where x lies below the row's end, it lies within the step at its place
pub record Within (s : ℕ → ℕ) (n x k : ℕ) : Type 0 where
  pub top : k ≤ n
  pub low : s k ≤ x
  pub high : x < s (suc k)

pub within : (s : ℕ → ℕ) (n x : ℕ) → s 0 ≤ x → x < s (suc n) → Within s n x (last_place s n x)
within s n x z h =
    let p = placed s n x z in
    record {
      top = p.top;
      low = p.low;
      high = elim (Rattle.std.proofs.lemmas.Bool.cases_lt (last_place s n x) n)
          [ inl lt ↦ p.high lt | inr ge ↦ (let e : last_place s n x ≡ n = omega (arith, p.top) in rw e h) ];
    }

-- and the step in which it lies is its place
pub place_is : (s : ℕ → ℕ) (n : ℕ) → ((k : ℕ) → k < n → s k ≤ s (suc k)) → (x k : ℕ) → s 0 ≤ x → Within s n x k → last_place s n x ≡ k
place_is s n r x k z w = only s n r x (last_place s n x) k (placed s n x z) (record { top = w.top; low = w.low; high = λ _. w.high })

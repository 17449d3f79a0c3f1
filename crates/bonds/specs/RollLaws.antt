-- What holds of the rolls of any terms.
use Rattle.std.specs.Prelude.{◌≡◌, ℕ, suc, ◌-◌, ◌<◌, ◌≤◌, true, length, slice_index, slice_index_or}
use Rattle.bonds.specs.declared.terms.Terms.{Terms}
use Rattle.bonds.specs.Rolls.{shifted, between, regular, rolls}

-- each roll is before the next
abbrev pub Rising : Terms → Type 0
Rising t = (i : ℕ) → suc i < length (rolls t) → slice_index (rolls t) i < slice_index (rolls t) (suc i)

-- the first roll is the effective day, the last is maturity, and all lie from the one to the other
pub record Spanning (t : Terms) : Type 0 where
  pub first : slice_index_or (rolls t) 0 0 ≡ t.effective
  pub last : slice_index_or (rolls t) (length (rolls t) - 1) 0 ≡ t.maturity
  pub low : (i : ℕ) → i < length (rolls t) → t.effective ≤ slice_index (rolls t) i
  pub high : (i : ℕ) → i < length (rolls t) → slice_index (rolls t) i ≤ t.maturity

-- no regular date is missed: a shift by any number of periods that lies between is one of them
abbrev pub Complete : Terms → Type 0
Complete t = (k : ℕ) → 1 ≤ k → between t (shifted t k) ≡ true → (i : ℕ) × (i < length (regular t)) × (slice_index (regular t) i ≡ shifted t k)

-- The rolls of a bond, generated.
use Rattle.std.specs.Prelude.{◌≡◌, ℕ, ◌≤◌, Bool, cond, List, [], ◌∷◌, length, Some, None, Ok, Option, Result, nat_lt, slice_index}
use Rattle.faults.specs.Refusals.{Refusal}
use Rattle.bonds.specs.declared.terms.Terms.{Terms}
use Rattle.bonds.specs.Rolls.{rolls, lag_of}
use Rattle.generation.specs.Rolls.{RollDays, roll_answer}

-- roll i of a bond, if it has one; a refusal names the bond, the roll and its unadjusted day
abbrev pub generated : (ℕ → Bool) → (ℕ → List ℕ) → Terms → ℕ → Option (Result RollDays Refusal)
generated good tries t i =
    cond (nat_lt i (length (rolls t)))
    (Some (roll_answer good tries (slice_index (rolls t) i) (lag_of t i) (t.number ∷ i ∷ slice_index (rolls t) i ∷ []))) None

-- the same, of a roll that the bond has
abbrev pub bond_roll : (ℕ → Bool) → (ℕ → List ℕ) → Terms → ℕ → Result RollDays Refusal
bond_roll good tries t i =
    roll_answer good tries (slice_index (rolls t) i) (lag_of t i) (t.number ∷ i ∷ slice_index (rolls t) i ∷ [])

-- the adjusted days of a bond never go backward
abbrev pub NeverBackward : (ℕ → Bool) → (ℕ → List ℕ) → Terms → Type 0
NeverBackward good tries t = (i j : ℕ) (a b : RollDays) → i ≤ j → generated good tries t i ≡ Some (Ok a) → generated good tries t j ≡ Some (Ok b) → a.adjusted ≤ b.adjusted

-- How near a roll's adjusted day lies to its unadjusted one: no reach is more than 30 days.
use Rattle.std.specs.Prelude.{ℕ, ◌+◌, ◌<◌, ◌≤◌, List, length, slice_index, slice_index_or}
use Rattle.bonds.specs.declared.terms.Terms.{Terms}
use Rattle.bonds.specs.Rolls.{rolls}
use Rattle.generation.specs.declared.roll.Roll.{Roll}

-- two days lie within 30 days of each other
abbrev pub Near : ℕ → ℕ → Type 0
Near u a = (u ≤ a + 30) × (a ≤ u + 30)

-- in the place of each roll of a bond stands one whose adjusted day is near its unadjusted day
abbrev pub NearRolls : Terms → List Roll → Type 0
NearRolls t days = (i : ℕ) (r : Roll) → i < length (rolls t) → Near (slice_index (rolls t) i) (slice_index_or days i r).adjusted.number

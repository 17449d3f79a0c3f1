-- Numbers in order, from one on.
use Rattle.std.proofs.Common.{◌≡◌, ℕ, zero, suc, ◌+◌, List, ◌∷◌, refl, ap}
use Rattle.std.specs.List.{range_with_len}
use Rattle.conventions.specs.Turns.{upward}

-- those of a range
pub in_order : (n a : ℕ) → range_with_len a n ≡ upward n a
unfolding upward
in_order zero a = refl
in_order (suc n) a = ap (λ (ns : List ℕ). a ∷ ns) (in_order n (a + 1))

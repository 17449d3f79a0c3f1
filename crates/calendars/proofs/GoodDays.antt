-- A day of the calendars is good if its code says so.
use Rattle.std.proofs.Common.{◌≡◌, ℕ, ◌≤◌, Bool, ◌&&◌, leb, arith}
use Rattle.std.proofs.lemmas.Bool.Decides.{nat_tests}

pub within : (d : ℕ) (g r : Bool) → d ≤ 109572 → r ≡ (leb d 109572 && g) → r ≡ g
within d g r h e = grind (arith, nat_tests)

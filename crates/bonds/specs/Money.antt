-- What a period's interest comes to.
use Rattle.std.specs.Prelude.{ℕ, ◌+◌, ◌*◌, ◌/◌, ◌<◌, ◌≤◌}

-- x / n to the nearest whole, an exact half going up
abbrev pub rounded : ℕ → ℕ → ℕ
rounded x n = (2 * x + n) / (2 * n)

-- the interest on a face value for some days at a year's rate in hundred-thousandths, a year having 360 days
abbrev pub amount : ℕ → ℕ → ℕ → ℕ
amount face rate days = rounded (face * rate * days) 36000000

-- the whole a is the nearest to x / n: at most half above it, less than half below
pub record Nearest (x n a : ℕ) : Type 0 where
  pub above : 2 * n * a ≤ 2 * x + n
  pub below : 2 * x < 2 * n * a + n

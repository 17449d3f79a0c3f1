-- A number under `{:04}` or `{:02}` is its digits, behind zeros up to the width.
use Rattle.std.proofs.Common.{◌≡◌, ℕ, ◌-◌, ◌^◌, [], false, append-nil, decimal}
use Rattle.std.proofs.Math.Nat.{sub-zero}
use Rattle.std.specs.Fmt.{padded_integral, format_spec, char_count}
use Rattle.dates.specs.DateText.{zero_padded}

pub padded : (width n : ℕ) → padded_integral (format_spec 32 0 4 width (2 ^ 64 - 1)) false [] (decimal n) ≡ zero_padded width n
unfolding padded_integral char_count zero_padded
padded width n = simp (append-nil, sub-zero)

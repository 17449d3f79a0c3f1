-- Numbers as they are written.
use Rattle.std.specs.Prelude.{◌≡◌, ℕ, ◌+◌, ◌-◌, ◌*◌, ◌^◌, ◌<◌, Bool, not, ◌&&◌, ◌||◌, List, [], ◌∷◌, length, Some, decimal, Option, ◌==◌, nat_le, slice_index}
use Rattle.std.specs.Str.{all_ascii_digits}
use Rattle.notation.specs.Readers.{when}

-- the number that digits write after those of n; 48 is the digit 0
abbrev pub read_on : ℕ → List ℕ → ℕ
read_on n [] = n
read_on n (c ∷ cs) = read_on (n * 10 + (c - 48)) cs

-- the number that digits write
abbrev pub digits_of : List ℕ → Option ℕ
digits_of ds = when (all_ascii_digits ds) (Some (read_on 0 ds))

-- 1 to 12 bytes, the first a 0 only where it is alone
abbrev pub plain : List ℕ → Bool
plain ds = nat_le 1 (length ds) && (nat_le (length ds) 12 && (not (slice_index ds 0 == 48) || length ds == 1))

-- a number as an entry has it
abbrev pub number_of : List ℕ → Option ℕ
number_of ds = when (plain ds) (digits_of ds)

-- the decimal spelling of a number below 10 ^ 12
abbrev pub Numeral : List ℕ → ℕ → Type 0
Numeral bs n = (bs ≡ decimal n) × (n < 10 ^ 12)

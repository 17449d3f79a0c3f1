use Rattle.std.proofs.Common.{◌≡◌, ◌^◌, ◌<◌, drop}
use Rattle.std.specs.Str.{all_ascii_digits}
use Rattle.notation.specs.Numerals.{read_on}
use Rattle.notation.proofs.numeral.digits_of.Given as goal

abbrev pub invariant-loop-byte : goal.invariant-loop-byte
invariant-loop-byte l =
    (read_on l.value (drop l.byte-index l.text) ≡ read_on 0 l.text)
    × (all_ascii_digits (drop l.byte-index l.text) ≡ all_ascii_digits l.text)
    × (l.value < 10 ^ l.byte-index)

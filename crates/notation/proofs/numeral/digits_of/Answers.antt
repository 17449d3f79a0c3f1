use Rattle.std.proofs.Common.{arith}
use Rattle.notation.proofs.Spelling.{tenfold}
use Rattle.notation.proofs.numeral.digits_of.Goals as goal

pub overflow_mul-value : goal.overflow_mul-value
overflow_mul-value c = omega (arith, tenfold c.loop-byte.value c.loop-byte.byte-index c.loop-byte.invariant.2 (omega arith))

pub overflow_add-value : goal.overflow_add-value
overflow_add-value c = omega (arith, tenfold c.loop-byte.value c.loop-byte.byte-index c.loop-byte.invariant.2 (omega arith), c.type_inv.text c.loop-byte.byte-index)

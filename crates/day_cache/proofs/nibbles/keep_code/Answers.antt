use Rattle.std.proofs.Common.{arith}
use Rattle.day_cache.proofs.Packing.{kept_set}
use Rattle.day_cache.proofs.nibbles.keep_code.Goals as goal

pub returns : goal.returns
returns c =
    kept_set c.args.words.now c.args.k c.args.code.value c.with_nibble.result (omega arith) (omega arith) c.with_nibble.ensures

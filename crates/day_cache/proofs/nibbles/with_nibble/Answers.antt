use Rattle.std.proofs.Common.{◌∙◌, arith}
use Rattle.day_cache.proofs.Packing.{packed}
use Rattle.day_cache.proofs.nibbles.with_nibble.Goals as goal

pub returns : goal.returns
returns c =
    let code = c.args.code.value in
    rw (c.from.ensures ∙ c.value.ensures) (packed c.args.word c.args.place code (omega arith) c.requires c.args.code.small)

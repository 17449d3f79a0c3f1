use Rattle.std.proofs.Common.{◌*◌, ◌/◌, ◌^◌}
use Rattle.std.proofs.lemmas.Nat.{and_mask}
use Rattle.day_cache.proofs.nibbles.nibble.Goals as goal

pub returns : goal.returns
returns c = and_mask (c.args.word / 2 ^ (4 * c.args.place)) 4

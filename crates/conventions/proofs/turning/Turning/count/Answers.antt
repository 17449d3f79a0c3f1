use Rattle.std.proofs.Common.{arith}
use Rattle.conventions.specs.TurnLaws.{turn_length}
use Rattle.conventions.proofs.turning.Turning.count.Goals as goal

pub returns : goal.returns
returns c = let s = c.args.self in omega (arith, turn_length s.last s.back s.u, s.ahead.0)

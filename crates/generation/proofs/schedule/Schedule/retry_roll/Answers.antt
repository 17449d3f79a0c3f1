use Rattle.std.proofs.Common.{arith}
use Rattle.generation.proofs.ScheduleLengths.{counted}
use Rattle.generation.proofs.schedule.Schedule.retry_roll.Goals as goal

pub roll_of_bond-requires : goal.roll_of_bond-requires
roll_of_bond-requires g c = let n = counted c.args.self.now in omega (arith, c.requires)

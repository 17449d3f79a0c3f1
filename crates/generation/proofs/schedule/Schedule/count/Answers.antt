use Rattle.std.proofs.Common.{sym, ◌∙◌}
use Rattle.generation.proofs.ScheduleLengths.{seen_length, counted}
use Rattle.generation.proofs.schedule.Schedule.count.Goals as goal

pub returns-clause-is : goal.returns-clause-is
returns-clause-is c = c.count.ensures.is ∙ sym (seen_length c.args.self.now)

pub returns-clause-places : goal.returns-clause-places
returns-clause-places c = c.count.ensures.is ∙ sym (counted c.args.self.now)

use Rattle.std.proofs.Common.{◌≡◌, ◌-◌, length}
use Rattle.calendars.specs.Lists.{first_place, breaks}
use Rattle.calendars.proofs.listed.check_rising.Given as goal

abbrev pub invariant-loop-i : goal.invariant-loop-i
invariant-loop-i l = first_place (breaks l.days) l.i (length l.days - l.i) ≡ first_place (breaks l.days) 0 (length l.days)

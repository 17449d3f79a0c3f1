use Rattle.std.proofs.Common.{◌≡◌, false, take}
use Rattle.std.specs.List.{list_any}
use Rattle.calendars.proofs.rule.Rule.is_closed.Given as goal

abbrev pub invariant-loop-held : goal.invariant-loop-held
invariant-loop-held g l = list_any (λ e. g.E.Entry.closes e l.day.0) (take l.held-index l.held-items) ≡ false

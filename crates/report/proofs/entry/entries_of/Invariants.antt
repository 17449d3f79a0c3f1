use Rattle.std.proofs.Common.{◌≡◌, ◌++◌, map}
use Rattle.notation.specs.InputLines.{parts_of}
use Rattle.notation.specs.Handed.{to_come}
use Rattle.report.specs.Readings.{typed}
use Rattle.report.specs.ReportViews.{seen_entry}
use Rattle.report.proofs.entry.entries_of.Given as goal

abbrev pub invariant-loop-line : goal.invariant-loop-line
invariant-loop-line l = map seen_entry l.entries.items ++ typed (to_come l.line-iterator) ≡ typed (parts_of l.input)

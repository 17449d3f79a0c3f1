use Rattle.std.proofs.Common.{◌≡◌, ◌++◌, map, drop}
use Rattle.report.specs.Readings.{calls_of}
use Rattle.report.specs.ReportViews.{seen_entry}
use Rattle.report.proofs.entry.calls_of.Given as goal

abbrev pub invariant-loop-entry : goal.invariant-loop-entry
invariant-loop-entry l =
    l.calls.items ++ calls_of (map seen_entry (drop l.entry-index l.entries)) ≡ calls_of (map seen_entry l.entries)

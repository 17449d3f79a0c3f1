use Rattle.std.proofs.Common.{◌≡◌, ◌++◌, map, drop}
use Rattle.std.specs.String.{string_bytes}
use Rattle.sheet.specs.RunViews.{seen_outcome}
use Rattle.report.specs.Printed.{entry_lines}
use Rattle.report.specs.ReportViews.{seen_entry}
use Rattle.report.proofs.printing.print_entries.Given as goal

abbrev pub invariant-loop-entry : goal.invariant-loop-entry
invariant-loop-entry l =
    string_bytes l.out ++ entry_lines (map seen_entry (drop l.entry-index l.entries)) (map seen_outcome l.told)
    ≡ string_bytes l.initial.out ++ entry_lines (map seen_entry l.entries) (map seen_outcome l.outcomes)

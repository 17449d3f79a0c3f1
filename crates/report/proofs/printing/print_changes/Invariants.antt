use Rattle.std.proofs.Common.{◌≡◌, ◌++◌, map, drop}
use Rattle.std.specs.String.{string_bytes}
use Rattle.changes.specs.Changes.{seen_place}
use Rattle.report.specs.Printed.{change_lines}
use Rattle.report.proofs.printing.print_changes.Given as goal

abbrev pub invariant-loop-place : goal.invariant-loop-place
invariant-loop-place l =
    string_bytes l.out ++ change_lines (map seen_place (drop l.place-index l.changes))
    ≡ string_bytes l.initial.out ++ change_lines (map seen_place l.changes)

use Rattle.std.proofs.Common.{List, ◌++◌, map, sym, ap, ◌∙◌}
use Rattle.std.specs.Option.{option_map}
use Rattle.notation.specs.Handed.{seen, to_come}
use Rattle.report.specs.declared.entry.Entry.{Entry}
use Rattle.report.specs.Readings.{typed}
use Rattle.report.specs.ReportViews.{seen_entry}
use Rattle.report.proofs.Reading.{first_to_come, one_entry_more}
use Rattle.report.proofs.entry.entries_of.Goals as goal

pub loop-line-preserved : goal.loop-line-preserved
loop-line-preserved c =
    let first = first_to_come _ _ _ _ c.next.ensures.steps (ap (option_map seen) c.in-Some.is) in
    let read = sym c.transpose.ensures ∙ c.in-Some-transpose.is in
    let more = one_entry_more _ (record { line = c.number.result; call = c.in-Some-transpose.call }) _ _ _ _ first c.number.ensures c.read.ensures read in
    ap (λ (es : List Entry). map seen_entry es ++ typed (to_come c.next.new.self)) c.in_ok-push.ensures.items ∙ more ∙ c.loop-line.invariant

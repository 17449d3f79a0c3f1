use Rattle.std.proofs.Common.{◌≡◌, ◌++◌, List, ℕ, IfOk, map, refl, ap, subst, ◌∙◌}
use Rattle.std.specs.String.{string_bytes}
use Rattle.calendars.specs.Target.{target_codes}
use Rattle.amendments.specs.LayerViews.{layer_now}
use Rattle.notation.specs.InputLines.{parts_of}
use Rattle.sheet.specs.RunViews.{seen_outcome}
use Rattle.report.specs.Readings.{Typed, typed, calls_of}
use Rattle.report.specs.ReportViews.{seen_entry}
use Rattle.report.specs.Program.{opening}
use Rattle.report.proofs.Made.{told_so}
use Rattle.report.proofs.Answered.{fresh_text}
use Rattle.report.proofs.session.answer.Goals as goal

pub returns : goal.returns
returns c =
    let es : List Typed = typed (parts_of c.args.input.now) in
    let read = ap (map seen_entry) c.as_slice-3.ensures.value ∙ c.in_ok-entries.ensures in
    let asked = ap (map seen_entry) c.as_slice.ensures.value ∙ c.in_ok-entries.ensures in
    let calls = c.as_slice-2.ensures.value ∙ c.in_ok-calls.ensures ∙ ap calls_of asked in
    let calendar = told_so (λ (s : _). layer_now target_codes s.lower) _ _ _ opening c.unwrap-calendar.ensures c.program_calendar.ensures in
    let told = ap (map seen_outcome) c.as_slice-4.ensures.value ∙ c.in_ok-run.ensures.never_drifts.same_outcomes in
    let lines = fresh_text _ _ _ _ _ _ read calls calendar refl told in
    subst (λ (text : List ℕ). IfOk c.print_entries.result (λ _. string_bytes c.print_entries.new.out ≡ string_bytes c.args.out.now ++ text)) lines c.print_entries.ensures

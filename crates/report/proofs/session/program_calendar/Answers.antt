use Rattle.std.proofs.Common.{◌≡◌, ℕ, [], Ok, ap, ◌∙◌}
use Rattle.calendars.specs.Target.{target_codes, target_code}
use Rattle.amendments.specs.Meanings.{Meaning, meaning}
use Rattle.amendments.specs.LayerViews.{layer_now}
use Rattle.report.proofs.Made.{told_so}
use Rattle.report.proofs.session.program_calendar.Goals as goal

pub returns : goal.returns
returns c =
    let under : ◌≡◌ (target_codes c.in_ok-target.target) target_code = told_so target_codes _ _ _ target_code c.in_ok-target.was c.target_calendar.ensures in
    let over_it : (ℕ → ℕ) → Meaning = λ codes. meaning codes (record { under = codes; entered = []; number = 9 }) in
    ap Ok (ap (layer_now target_codes) c.new-2.ensures.0 ∙ c.new.ensures ∙ ap over_it under)

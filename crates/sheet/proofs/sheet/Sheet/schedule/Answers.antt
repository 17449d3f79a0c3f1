use Rattle.std.proofs.Common.{List, Some, None, ap, ◌∙◌}
use Rattle.std.specs.Option.{option_map}
use Rattle.std.specs.Result.{result_ok}
use Rattle.tables.specs.Tables.{rising}
use Rattle.generation.specs.Schedules.{seen_schedule}
use Rattle.sheet.specs.KeptBonds.{Place, kept, all_live, place_number}
use Rattle.sheet.specs.Readings.{schedule_numbered}
use Rattle.sheet.proofs.NumberedSchedules.{numbered, seen_lent}
use Rattle.sheet.proofs.sheet.Sheet.schedule.Goals as goal

pub returns-in_err-at : goal.returns-in_err-at
returns-in_err-at g c =
    let s = c.args.self.now in
    let ps = c.live-live.result.now in
    let same = c.live-live.ensures.is in
    ap (option_map _) c.from_residual.ensures
    ∙ numbered c.args.number ps None (ap all_live same ∙ s.full) (ap (rising place_number 0) same ∙ s.risen) None (c.in_err-at.ensures.value ∙ ap result_ok c.find.ensures.is)
    ∙ ap (λ (xs : List Place). schedule_numbered c.args.number (kept xs)) same

pub returns : goal.returns
returns g c =
    let s = c.args.self.now in
    let ps = c.live-live.result.now in
    let same = c.live-live.ensures.is in
    let d = c.index-live-at.result in
    seen_lent c.as_ref.result ∙ ap (option_map seen_schedule) (c.as_ref.ensures.value ∙ c.index-live-at.is)
    ∙ numbered c.args.number ps d (ap all_live same ∙ s.full) (ap (rising place_number 0) same ∙ s.risen) (Some c.in_ok-at.at) (c.in_ok-at.ensures.value ∙ ap result_ok c.find.ensures.is)
    ∙ ap (λ (xs : List Place). schedule_numbered c.args.number (kept xs)) same

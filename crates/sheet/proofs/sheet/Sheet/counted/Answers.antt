use Rattle.std.proofs.Common.{◌≡◌, ℕ, List, ap, ◌∙◌}
use Rattle.sheet.specs.Notices.{counted}
use Rattle.sheet.specs.SheetViews.{kept_by}
use Rattle.sheet.proofs.Uncounted.{all_uncounted, no_changes}
use Rattle.sheet.proofs.sheet.Sheet.counted.Goals as goal

pub returns : goal.returns
returns g c = c.counted.ensures ∙ ap (λ (ds : List ℕ). counted (g.C.Convention.tries c.args.self.now.convention) ds (kept_by c.args.self.now)) c.days-count.ensures.days

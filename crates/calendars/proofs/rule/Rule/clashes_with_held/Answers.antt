use Rattle.std.proofs.Common.{◌≡◌, Bool, ap, ◌∙◌, rules}
use borrow.Author.Tests.{tests}
use Rattle.std.specs.List.{list_any}
use Rattle.std.proofs.lemmas.Iterator.{YieldsList-from_slice}
use Rattle.std.proofs.lemmas.Iterator.Search.{any_from_yields_List}
use Rattle.calendars.specs.Rules.{any}
use Rattle.calendars.proofs.Scans.{any_is}
use Rattle.calendars.proofs.rule.Rule.clashes_with_held.Goals as goal

pub returns : goal.returns
returns g c =
    let test : g.row.E.Denot → Bool = λ e. g.E.Entry.clashes e c.args.new.now in
    let s : c.any.result ≡ list_any test c.held.result.now =
    any_from_yields_List test _ _ c.any.result c.any.ensures.ran (YieldsList-from_slice c.held.result.now c.iter.ensures.rest) (λ x b q k. search (rules, tests)) in
    s ∙ any_is test c.held.result.now ∙ ap (any test) c.held.ensures.is

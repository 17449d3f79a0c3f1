use Rattle.std.proofs.Common.{Bool, ◌∙◌, rules, tests}
use Rattle.std.proofs.lemmas.Iterator.{YieldsList-from_slice}
use Rattle.std.proofs.lemmas.Iterator.Search.{any_from_yields_List}
use Rattle.dates.specs.declared.day.Day.{Day}
use Rattle.generation.specs.Retrying.{inside}
use Rattle.generation.specs.Views.{number_of, seen_footing}
use Rattle.generation.proofs.Retried.{any_map}
use Rattle.generation.proofs.footing.Footing.holds_one.Goals as goal

pub returns : goal.returns
returns c =
    let test : Day → Bool = λ d. inside (seen_footing c.args.self.now) d.0 in
    any_from_yields_List test _ _ _ c.any.ensures.ran (YieldsList-from_slice c.args.days.now (cc)) (λ x b q k. search (rules, tests))
    ∙ any_map number_of (inside (seen_footing c.args.self.now)) c.args.days.now

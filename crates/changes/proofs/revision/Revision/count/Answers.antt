use Rattle.std.proofs.Common.{ℕ, ◌-◌, Bool, List, length, is_some, refl, ap, ◌∙◌, rules, tests}
use Rattle.std.proofs.lemmas.Iterator.{YieldsList-from_range}
use Rattle.std.proofs.lemmas.Iterator.Consumers.{YieldsList-from_filter, YieldsList-at, count_from_yields_List}
use Rattle.std.specs.List.{filter}
use Rattle.conventions.specs.Turns.{upward}
use Rattle.generation.specs.Schedules.{seen_schedule}
use Rattle.generation.proofs.Numbers.{in_order}
use Rattle.changes.specs.Changes.{altered_payment, changes_at}
use Rattle.changes.proofs.Listings.{as_many}
use Rattle.changes.proofs.revision.Revision.count.Goals as goal

pub returns-clause-is : goal.returns-clause-is
returns-clause-is c = λ before after.
    let x = seen_schedule c.args.self.now.old.now in
    let y = seen_schedule c.args.self.now.new.now in
    let test : ℕ → Bool = λ k. is_some (altered_payment x y k) in
    let n = c.count.result in
    count_from_yields_List c.filter-altered.result c.count-2.result c.count-2.ensures.ran
    (YieldsList-from_filter _ test (YieldsList-at c.filter-altered.ensures.source (YieldsList-from_range 1 n (n - 1) refl refl)) c.filter-altered.ensures.closure (λ k b q f. search (rules, tests)))
    ∙ ap (λ (ns : List ℕ). length (filter test ns)) (in_order (n - 1) 1)
    ∙ as_many before after x y (upward (n - 1) 1)
    ∙ ap (λ (m : ℕ). length (changes_at before after x y (upward (m - 1) 1))) c.count.ensures.is

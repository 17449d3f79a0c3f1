use Rattle.std.proofs.Common.{leb, sym, ◌∙◌, rules, tests}
use Rattle.std.proofs.lemmas.Iterator.{YieldsList-from_slice}
use Rattle.std.proofs.lemmas.Iterator.Search.{position_from_yields_List}
use Rattle.tables.proofs.Finds.{found_behind, found_here, found_before}
use Rattle.tables.proofs.Standing.{held_law}
use Rattle.tables.proofs.table.find.Goals as goal

pub returns-in-Some-clause-is : goal.returns-in-Some-clause-is
returns-in-Some-clause-is g c =
    found_here g.R.Keyed.key c.args.key c.args.records.now c.in-Some.at c.index-records-at.result
    (sym (position_from_yields_List (λ x. leb c.args.key (g.R.Keyed.key x)) _ _ _ c.position.ensures.ran (YieldsList-from_slice c.args.records.now c.iter.ensures.rest) (λ x b q s. search (rules, tests))) ∙ c.in-Some.is)
    c.index-records-at.is (sym c.key.ensures ∙ c.if-key.true)

pub returns-in-Some-clause-law : goal.returns-in-Some-clause-law
returns-in-Some-clause-law g c = held_law g.R.Keyed.key c.args.records.now

pub returns-in-Some-2-clause-is : goal.returns-in-Some-2-clause-is
returns-in-Some-2-clause-is g c =
    found_before g.R.Keyed.key c.args.key c.args.records.now c.in-Some.at c.index-records-at.result
    (sym (position_from_yields_List (λ x. leb c.args.key (g.R.Keyed.key x)) _ _ _ c.position.ensures.ran (YieldsList-from_slice c.args.records.now c.iter.ensures.rest) (λ x b q s. search (rules, tests))) ∙ c.in-Some.is)
    c.index-records-at.is (λ e. c.if-key.false (c.key.ensures ∙ e))

pub returns-in-Some-2-clause-law : goal.returns-in-Some-2-clause-law
returns-in-Some-2-clause-law g c = held_law g.R.Keyed.key c.args.records.now

pub returns-in-None-clause-is : goal.returns-in-None-clause-is
returns-in-None-clause-is g c =
    found_behind g.R.Keyed.key c.args.key c.args.records.now
    (sym (position_from_yields_List (λ x. leb c.args.key (g.R.Keyed.key x)) _ _ _ c.position.ensures.ran (YieldsList-from_slice c.args.records.now c.iter.ensures.rest) (λ x b q s. search (rules, tests))) ∙ c.in-None.is)

pub returns-in-None-clause-law : goal.returns-in-None-clause-law
returns-in-None-clause-law g c = held_law g.R.Keyed.key c.args.records.now

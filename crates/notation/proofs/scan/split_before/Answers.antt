use Rattle.std.proofs.Common.{◌==◌, rules, tests}
use Rattle.std.proofs.lemmas.Iterator.{YieldsList-from_slice}
use Rattle.std.proofs.lemmas.Iterator.Search.{position_from_yields_List}
use Rattle.notation.proofs.Cuts.{before_is}
use Rattle.notation.proofs.scan.split_before.Goals as goal

pub returns : goal.returns
returns c =
    let found = position_from_yields_List (λ b. b == c.args.stop) _ _ c.position-at.result c.position-at.ensures.ran (YieldsList-from_slice c.args.bytes.now (cc)) (λ x b q k. search (rules, tests)) in
    let e = before_is c.args.stop c.args.bytes.now in
    record { front = cc; back = cc }

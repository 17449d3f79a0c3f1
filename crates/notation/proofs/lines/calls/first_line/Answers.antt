use Rattle.std.proofs.Common.{◌≡◌, drop, rules}
use Rattle.notation.proofs.Cuts.{line_cut}
use Rattle.notation.proofs.lines.calls.first_line.Goals as goal

pub returns-clause-is : goal.returns-clause-is
returns-clause-is c =
    let after : c.map_or-rest.result.now ≡ drop 1 c.split_before.result.1.now = search rules in
    line_cut c.args.bytes.now _ _ _ (search rules) c.split_before.ensures.front c.split_before.ensures.back after

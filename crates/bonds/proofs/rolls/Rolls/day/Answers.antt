use Rattle.std.proofs.Common.{arith}
use Rattle.std.proofs.lemmas.Bool.Decides.{nat_tests}
use Rattle.bonds.proofs.Rolling.{rolls_length, roll_reached, roll_between}
use Rattle.bonds.proofs.rolls.Rolls.day.Goals as goal

pub returns : goal.returns
returns c =
    let t = c.args.self.now.terms in
    let b = roll_between t c.args.i (omega arith) (omega arith) in
    grind (arith, nat_tests, rolls_length t, roll_reached t c.args.i (omega arith) (omega arith), c.map.ensures.cases)

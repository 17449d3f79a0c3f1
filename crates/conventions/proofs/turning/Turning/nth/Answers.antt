use Rattle.std.proofs.Common.{arith}
use Rattle.std.proofs.lemmas.Bool.Decides.{nat_tests}
use Rattle.conventions.specs.TurnLaws.{turn_length, turn_ahead, turn_back}
use Rattle.conventions.proofs.turning.Turning.nth.Goals as goal

pub overflow_sub-result : goal.overflow_sub-result
overflow_sub-result c = let s = c.args.self in omega (arith, turn_length s.last s.back s.u)

pub returns-then-k-self : goal.returns-then-k-self
returns-then-k-self c =
    let s = c.args.self in let e = turn_ahead s.last s.back s.u c.args.k (omega arith) in grind (arith, nat_tests)

pub returns-else-k-self : goal.returns-else-k-self
returns-else-k-self c =
    let s = c.args.self in
    let n = turn_length s.last s.back s.u in
    let e = turn_back s.last s.back s.u c.args.k (omega arith) (omega arith) (omega arith) in grind (arith, nat_tests)

use Rattle.std.proofs.Common.{◌≡◌, ◌+◌, ◌-◌, arith}
use Rattle.std.proofs.lemmas.Bool.Decides.{nat_tests}
use Rattle.dates.proofs.easter.easter_sunday.Goals as goal

pub returns : goal.returns
returns c = let y : 1900 + (c.args.year - 1900) ≡ c.args.year = grind (arith, nat_tests) in grind (arith, nat_tests)

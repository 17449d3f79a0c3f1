use Rattle.std.proofs.Common.{ap, arith}
use Rattle.dates.proofs.Asked.{asked_is}
use Rattle.dates.specs.MonthPlaces.{Spot}
use Rattle.conventions.specs.ConventionLaws.{last_low, last_high}
use Rattle.conventions.proofs.modified_following.ModifiedFollowingTurns.last_day.Goals as goal

pub returns : goal.returns
returns c =
    let e = ap (λ (s : Spot). s.month) (asked_is c.args.u _ _ (rw c.unwrap-at.ensures at c.month_place.ensures)) in
    grind (arith, last_low c.args.u c.requires, last_high c.args.u c.requires)

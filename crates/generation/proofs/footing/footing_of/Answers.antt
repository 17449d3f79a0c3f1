use Rattle.generation.proofs.Standing.{footing_holds}
use Rattle.generation.proofs.Runs.{run_was_tried}
use Rattle.generation.proofs.footing.footing_of.Goals as goal

pub returns-clause-holds : goal.returns-clause-holds
returns-clause-holds g c = footing_holds

pub returns-clause-run : goal.returns-clause-run
returns-clause-run g c =
    run_was_tried (g.C.Convention.tries c.args.convention.now) (g.met.C.Convention.first c.args.convention.now) (g.met.C.Convention.run c.args.convention.now)

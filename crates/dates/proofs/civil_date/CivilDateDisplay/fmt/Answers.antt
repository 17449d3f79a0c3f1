use Rattle.std.proofs.Output.{has_written_of_eq}
use Rattle.dates.proofs.DateTexts.{padded}
use Rattle.dates.proofs.civil_date.CivilDateDisplay.fmt.Goals as goal

pub returns-clause-writes : goal.returns-clause-writes
returns-clause-writes g c =
    let date = c.args.self.now in
    λ p o. has_written_of_eq _ _ _ _ _
    (rw (c.laid_out.ensures, c.laid_out-2.ensures, c.laid_out-3.ensures, padded 4 date.year, padded 2 date.month, padded 2 date.day))
    (c.write.ensures.writes p o)

-- What came of a call, as the code hands it out.
use Rattle.std.specs.Prelude.{map}
use Rattle.faults.specs.Refusals.{told, refusal}
use Rattle.changes.specs.Changes.{seen_place}
use Rattle.sheet.specs.declared.run.Outcome.{Outcome as Handed}
use Rattle.sheet.specs.Steps.{Outcome}

-- its answer or refusal, and the places that it wrote
abbrev pub seen_outcome : Handed → Outcome
seen_outcome o = record { answer = told refusal o.answer; changes = map seen_place o.changes.items }

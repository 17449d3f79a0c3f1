-- What the code has read.
use Rattle.faults.specs.Refusals.{told, text_refusal}
use Rattle.report.specs.declared.entry.Entry.{Entry}
use Rattle.report.specs.Readings.{Typed}

abbrev pub seen_entry : Entry → Typed
seen_entry e = record { line = e.line; call = told text_refusal e.call }

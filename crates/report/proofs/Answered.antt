-- What is printed of the entries of an input.
use Rattle.std.proofs.Common.{◌≡◌, List, Option}
use Rattle.conventions.specs.Turns.{modified_following}
use Rattle.amendments.specs.Meanings.{Meaning}
use Rattle.changes.specs.Changes.{Altered}
use Rattle.sheet.specs.declared.call.Call.{Call}
use Rattle.sheet.specs.FreshSheets.{opened}
use Rattle.sheet.specs.Steps.{Outcome}
use Rattle.sheet.specs.EveryUse.{outcomes}
use Rattle.report.specs.Readings.{Typed, calls_of}
use Rattle.report.specs.Program.{opening, free_places}
use Rattle.report.specs.Printed.{entry_lines, entries_text}

-- entries whose calls come out as on the fresh sheet print its text
pub fresh_text : (read es : List Typed) (calls : List Call) (m : Meaning) (list : List (Option Altered)) (os : List Outcome)
    → read ≡ es → calls ≡ calls_of es → m ≡ opening → list ≡ free_places → os ≡ outcomes modified_following (opened m) list calls
    → entry_lines read os ≡ entries_text es
fresh_text read es calls m list os a b d e f = rw (f, e, d, b, a)

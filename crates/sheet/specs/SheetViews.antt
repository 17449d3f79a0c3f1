-- A sheet of the code as a fresh sheet, by the meanings of its calendar and its convention.
use Rattle.std.specs.Prelude.{List, take}
use Rattle.calendars.specs.declared.calendar.Calendar as calendars
use Rattle.amendments.specs.declared.amendable.Amendable as amendments
use Rattle.conventions.specs.declared.convention.Convention as conventions
use Rattle.amendments.specs.Meanings.{meaning}
use Rattle.generation.specs.Schedules.{Scheduled}
use Rattle.sheet.specs.declared.sheet.Sheet.{Sheet}
use Rattle.sheet.specs.FreshSheets.{Fresh}
use Rattle.sheet.specs.KeptBonds.{kept, view}

module _ {P C : Type 0} {amendable : amendments.Ghosts P} {calendar : calendars.Ghosts P} {convention : conventions.Ghosts C} where
  -- the schedules that it keeps, by rising number of their bonds
  abbrev pub kept_by : Sheet P C amendable calendar convention → List Scheduled
  kept_by s = kept (take s.count s.places)

  -- its live bonds and what its calendar means
  abbrev pub seen_sheet : Sheet P C amendable calendar convention → Fresh
  seen_sheet s = view (meaning (calendar.codes s.calendar) (amendable.rest s.calendar)) (kept_by s)

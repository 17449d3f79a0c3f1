-- The program's calendar and list of changes, as they are at the start.
use Rattle.std.specs.Prelude.{List, [], Option, None, replicate}
use Rattle.calendars.specs.Target.{target_code}
use Rattle.amendments.specs.Meanings.{Meaning, meaning}
use Rattle.changes.specs.Changes.{Altered}

-- T, with nothing entered, under an amendment layer of number 9
abbrev pub opening : Meaning
opening = meaning target_code (record { under = target_code; entered = []; number = 9 })

-- 400 free places
abbrev pub free_places : List (Option Altered)
free_places = replicate 400 None

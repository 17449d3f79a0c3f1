-- What a sheet of the code keeps, and when that is right.
use Rattle.std.specs.Prelude.{◌≡◌, ℕ, Bool, true, false, Option, Some, None, List, [], ◌∷◌, map, Ok}
use Rattle.std.specs.Option.{option_map_or}
use Rattle.amendments.specs.Meanings.{Meaning}
use Rattle.bonds.specs.declared.terms.Terms.{Terms}
use Rattle.generation.specs.declared.schedule.Schedule.{Schedule}
use Rattle.generation.specs.Schedules.{Scheduled, seen_schedule}
use Rattle.sheet.specs.FreshSheets.{Fresh, number, schedules}

-- a place is free, or a live bond's schedule stands in it
abbrev pub Place : Type 0
Place = Option Schedule

-- the schedules that stand in places
unfoldable pub kept : List Place → List Scheduled
kept [] = []
kept (None ∷ ps) = kept ps
kept (Some s ∷ ps) = seen_schedule s ∷ kept ps

-- no place is free
abbrev pub all_live : List Place → Bool
all_live [] = true
all_live (None ∷ ps) = false
all_live (Some s ∷ ps) = all_live ps

-- places are kept by the bond's number
abbrev pub place_number : Place → ℕ
place_number p = option_map_or (λ (s : Schedule). number (seen_schedule s).terms) p 0

-- the bonds of schedules
abbrev pub bonds_of : List Scheduled → List Terms
bonds_of xs = map (λ x. x.terms) xs

-- the fresh sheet of what is kept
abbrev pub view : Meaning → List Scheduled → Fresh
view m xs = record { bonds = bonds_of xs; calendar = m }

-- what is kept is what generation gives for the live bonds
abbrev pub Sound : (ℕ → List ℕ) → Meaning → List Scheduled → Type 0
Sound tries m xs = schedules tries m (bonds_of xs) ≡ Ok xs

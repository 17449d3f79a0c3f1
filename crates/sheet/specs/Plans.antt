-- The places of a sheet as a notice would leave them.
use Rattle.std.specs.Prelude.{◌≡◌, ℕ, true, List, map, length, take, Option, Some, None, Ok}
use Rattle.amendments.specs.Meanings.{Meaning}
use Rattle.notices.specs.declared.notice.Notice.{Notice}
use Rattle.notices.specs.Notices.{calendar_answer, calendar_after}
use Rattle.generation.specs.declared.schedule.Schedule.{Schedule}
use Rattle.sheet.specs.KeptBonds.{Place, all_live, place_number, kept, bonds_of, Sound}

-- the first n places hold the same bonds in the same order
pub record SameBonds (n : ℕ) (old new : List Place) : Type 0 where
  pub long : length new ≡ length old
  pub live : all_live (take n new) ≡ true
  pub numbers : map place_number (take n new) ≡ map place_number (take n old)

-- the schedules in two places, if there are two
abbrev pub both : Place → Place → Option (Schedule × Schedule)
both (Some s) (Some t) = Some (s, t)
both (Some s) None = None
both None p = None

-- the calendar grants the notice, and after it the new places hold the same bonds, generated
pub record Replaces (tries : ℕ → List ℕ) (m : Meaning) (notice : Notice) (n : ℕ) (old new : List Place) : Type 0 where
  pub grants : calendar_answer m notice ≡ Ok tt
  pub same : SameBonds n old new
  pub bonds : bonds_of (kept (take n new)) ≡ bonds_of (kept (take n old))
  pub fresh : Sound tries (calendar_after m notice) (kept (take n new))

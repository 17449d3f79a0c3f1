-- A fresh sheet that stands: its bonds rise by number, and all of them are generated.
use Rattle.std.proofs.Common.{◌≡◌, ℕ, true, List, Ok}
use Rattle.tables.specs.Tables.{rising}
use Rattle.generation.specs.Schedules.{Scheduled}
use Rattle.sheet.specs.FreshSheets.{Fresh, number, schedules}

pub record Standing (tries : ℕ → List ℕ) (s : Fresh) : Type 0 where
  pub all : List Scheduled
  pub granted : schedules tries s.calendar s.bonds ≡ Ok all
  pub risen : rising number 0 s.bonds ≡ true

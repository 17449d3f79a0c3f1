-- The weekly rule: seven marks, Monday first.
use Rattle.std.specs.Prelude.{ℕ, ◌%◌, Bool, false, List, slice_index_or}
use Rattle.calendars.specs.Codes.{closing}

-- day 0 is a Monday
abbrev pub weekly_code : List Bool → ℕ → ℕ → ℕ
weekly_code marks layer d = closing (slice_index_or marks (d % 7) false) layer

-- What a notice leaves as it was.
use Rattle.std.specs.Prelude.{◌≡◌, ℕ, List, [], ◌∷◌, ◌≢◌}
use Rattle.amendments.specs.Meanings.{Meaning, is_entered}
use Rattle.notices.specs.declared.notice.Notice.{Notice}
use Rattle.notices.specs.Notices.{days_of, calendar_after}

-- the day is none of these
abbrev pub NoneOf : ℕ → List ℕ → Type 0
NoneOf d [] = Unit {0}
NoneOf d (x ∷ xs) = (d ≢ x) × NoneOf d xs

-- every other day keeps its code and is entered as before; the codes under the days and the calendar's number stay
pub record NoticeLaw (m : Meaning) (notice : Notice) : Type 0 where
  pub other_codes : (d : ℕ) → NoneOf d (days_of notice) → (calendar_after m notice).codes d ≡ m.codes d
  pub other_entries : (d : ℕ) → NoneOf d (days_of notice) → is_entered (calendar_after m notice).rest d ≡ is_entered m.rest d
  pub under_stays : (calendar_after m notice).rest.under ≡ m.rest.under
  pub number_stays : (calendar_after m notice).rest.number ≡ m.rest.number

-- The listed calendar: days that rise strictly, up to the last day.
use Rattle.std.specs.Prelude.{ℕ, zero, suc, ◌-◌, Bool, cond, ◌&&◌, ◌||◌, List, [], ◌∷◌, length, is_ok, Some, None, Ok, Option, Result, nat_eq, nat_le, nat_lt, slice_index_or}
use Rattle.faults.specs.Refusals.{Refusal, refuse}
use Rattle.dates.specs.declared.day.Day.{Day}
use Rattle.calendars.specs.declared.listed.Listed.{Listed}
use Rattle.calendars.specs.Codes.{closing}
use Rattle.calendars.specs.Rules.{Held, any}

-- what a listed calendar of the code holds
abbrev pub held_days : Listed → Held Day
held_days l = record { entries = l.days.now; layer = l.layer.number }

-- a listed day is closed
abbrev pub listed : List Day → ℕ → Bool
listed days d = any (λ x. nat_eq x.0 d) days

abbrev pub listed_code : List Day → ℕ → ℕ → ℕ
listed_code days layer d = closing (listed days d) layer

-- the day at place i
abbrev pub listed_at : List Day → ℕ → ℕ
listed_at days i = (slice_index_or days i (record { 0 = 0 })).0

-- the day at place i breaks the rise: it lies after 31 December 2199, or not after the day before it
abbrev pub breaks : List Day → ℕ → Bool
breaks days i = nat_lt 109572 (listed_at days i) || (nat_lt 0 i && nat_le (listed_at days i) (listed_at days (i - 1)))

-- the first of the n places from i on at which the test holds
unfoldable pub first_place : (ℕ → Bool) → ℕ → ℕ → Option ℕ
first_place test i zero = None
first_place test i (suc n) = cond (test i) (Some i) (first_place test (suc i) n)

-- refused with 42, naming a place
abbrev pub refused_at : Option ℕ → Result (Unit {0}) Refusal
refused_at None = Ok tt
refused_at (Some place) = refuse 42 (place ∷ [])

-- a list is refused at the first place that breaks the rise
abbrev pub list_answer : List Day → Result (Unit {0}) Refusal
list_answer days = refused_at (first_place (breaks days) 0 (length days))

-- a refused list leaves the old one in force
abbrev pub after_replace : Held Day → List Day → Held Day
after_replace held days = cond (is_ok (list_answer days)) (record { entries = days; layer = held.layer }) held

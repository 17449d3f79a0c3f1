-- The three conventions differ in their ends only.
use Rattle.std.specs.Prelude.{ℕ, ◌+◌, ◌≤◌}
use Rattle.std.proofs.Common.{inl, inr, arith}
use Rattle.std.proofs.lemmas.Bool.{cases_order}
use Rattle.dates.specs.Years.{place_of}
use Rattle.dates.specs.Months.{month_no}
use Rattle.dates.proofs.Facts.{place_high}
use Rattle.dates.proofs.MonthShifts.{cut_rises, stands}
use Rattle.conventions.specs.Turns.{last_of, following, preceding, modified_following}
use Rattle.conventions.specs.TurnLaws.{Lawful, Ending, turns}

pub following_ending : Ending (λ u. u + 30)
following_ending = record { low = λ u h. omega arith; high = λ u h. omega arith; rises = λ u v h t. omega arith }

pub following_laws : Lawful following
following_laws = turns (λ u. u + 30) 0 (omega arith) following_ending

pub preceding_ending : Ending (λ u. u)
preceding_ending = record { low = λ u h. omega arith; high = λ u h. omega arith; rises = λ u v h t. h }

pub preceding_laws : Lawful preceding
preceding_laws = turns (λ u. u) 30 (omega arith) preceding_ending

-- the last day of a day's month is not before it, at most 30 days after it, and never falls
pub last_low : (u : ℕ) → u ≤ 109207 → u ≤ last_of u
last_low u h = omega (arith, stands u (omega arith), place_high u (omega arith))

pub last_high : (u : ℕ) → u ≤ 109207 → last_of u ≤ u + 30
last_high u h = omega (arith, stands u (omega arith))

last_rises : (u v : ℕ) → u ≤ v → v ≤ 109207 → last_of u ≤ last_of v
last_rises u v h t =
    elim (cases_order (month_no u) (month_no v)) [
      | inl e ↦ rw e (omega arith)
      | inr (inl lt) ↦ omega (arith, cut_rises (month_no u) (month_no v) 30 30 lt)
      | inr (inr gt) ↦ absurd (omega (arith, stands u (omega arith), stands v (omega arith), cut_rises (month_no v) (month_no u) (place_of v) (place_of u) gt))
    ]

pub modified_following_ending : Ending last_of
modified_following_ending = record { low = last_low; high = last_high; rises = last_rises }

pub modified_following_laws : Lawful modified_following
modified_following_laws = turns last_of 30 (omega arith) modified_following_ending

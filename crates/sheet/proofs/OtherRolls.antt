-- A notice leaves the rolls alone that stand on none of its days.
use Rattle.std.proofs.Common.{◌≡◌, ℕ, false, eqb, List, [], ◌∷◌, get_or, ◌∙◌, refl, arith}
use Rattle.std.proofs.lemmas.Bool.Decides.{nat_tests}
use Rattle.calendars.specs.Codes.{good}
use Rattle.amendments.specs.Meanings.{Meaning, recoded}
use Rattle.bonds.specs.Rolls.{rolls, lag_of}
use Rattle.generation.specs.Retrying.{SameButFor}
use Rattle.generation.proofs.Retried.{roll_stays}
use Rattle.notices.specs.declared.notice.Notice.{Notice}
use Rattle.notices.specs.declared.notice.Notice.TheVariants.{Declare, Cancel, Move, Withdraw}
use Rattle.notices.specs.Notices.{days_of, calendar_after}
use Rattle.sheet.specs.FreshSheets.{Fresh, good_days}
use Rattle.sheet.specs.EveryUse.{OtherRollsStay}

-- another day is as good as before
still_good : (codes : ℕ → ℕ) (day code d : ℕ) → eqb d day ≡ false → good (codes d) ≡ good (recoded codes day code d)
still_good codes day code d other = rw other refl

-- a notice changes its own days alone
pub same_but_for : (m : Meaning) (notice : Notice) → SameButFor (days_of notice) (good_days m) (good_days (calendar_after m notice))
same_but_for m (Declare day) d other = still_good m.codes day.0 m.rest.number d (grind (arith, nat_tests))
same_but_for m (Cancel day) d other = still_good m.codes day.0 0 d (grind (arith, nat_tests))
same_but_for m (Move from to) d other =
    still_good m.codes from.0 0 d (grind (arith, nat_tests))
    ∙ still_good (recoded m.codes from.0 0) to.0 m.rest.number d (grind (arith, nat_tests))
same_but_for m (Withdraw day) d other = still_good m.codes day.0 (m.rest.under day.0) d (grind (arith, nat_tests))

-- the rolls that a notice leaves alone
pub others_stay : (tries : ℕ → List ℕ) (s : Fresh) (notice : Notice)
    → OtherRollsStay tries (days_of notice) s (record { bonds = s.bonds; calendar = calendar_after s.calendar notice })
others_stay tries s notice b i r _ e none =
    roll_stays (good_days s.calendar) (good_days (calendar_after s.calendar notice)) tries (days_of notice) (same_but_for s.calendar notice)
    (get_or (rolls b) i 0) (lag_of b i) (b.number ∷ i ∷ get_or (rolls b) i 0 ∷ []) r none e

-- A notice leaves the days that it does not name as they were.
use Rattle.std.proofs.Common.{◌≡◌, ℕ, suc, true, List, [], ◌∷◌, refl, ◌∙◌, arith}
use Rattle.std.proofs.lemmas.Bool.Decides.{nat_tests}
use Rattle.tables.specs.Tables.{rising, has, with_record, without}
use Rattle.tables.proofs.Rises.{has_below}
use Rattle.amendments.specs.Meanings.{Meaning, itself, recoded}
use Rattle.notices.specs.declared.notice.Notice.{Notice}
use Rattle.notices.specs.declared.notice.Notice.TheVariants.{Declare, Cancel, Move, Withdraw}
use Rattle.notices.specs.NoticeLaws.{NoticeLaw}

-- another day's code stays
code_stays : (codes : ℕ → ℕ) (day code d : ℕ) → (d ≡ day → ⊥) → recoded codes day code d ≡ codes d
code_stays codes day code d ne = grind (arith, nat_tests)

-- another day is entered as before where one is entered
pub entered_with : (day d : ℕ) (days : List ℕ) → (d ≡ day → ⊥) → has itself d (with_record itself day days) ≡ has itself d days
entered_with day d [] ne = grind (arith, nat_tests)
entered_with day d (x ∷ xs) ne = let h = entered_with day d xs ne in grind (arith, nat_tests)

-- and where one is taken out
entered_without : (day d low : ℕ) (days : List ℕ) → rising itself low days ≡ true → (d ≡ day → ⊥) → has itself d (without itself day days) ≡ has itself d days
entered_without day d low [] up ne = refl
entered_without day d low (x ∷ xs) up ne =
    let h = entered_without day d (suc x) xs in let b = has_below itself d (suc x) xs in grind (arith, nat_tests)

-- the law of a notice, for entered days in rising order
pub notice_law : (m : Meaning) (notice : Notice) → rising itself 0 m.rest.entered ≡ true → NoticeLaw m notice
notice_law m (Declare day) up =
    record {
      other_codes = λ d ne. code_stays m.codes day.0 m.rest.number d ne.0;
      other_entries = λ d ne. entered_with day.0 d m.rest.entered ne.0;
      under_stays = refl;
      number_stays = refl;
    }
notice_law m (Cancel day) up =
    record {
      other_codes = λ d ne. code_stays m.codes day.0 0 d ne.0;
      other_entries = λ d ne. entered_with day.0 d m.rest.entered ne.0;
      under_stays = refl;
      number_stays = refl;
    }
notice_law m (Move from to) up =
    record {
      other_codes =
          λ d ne.
          code_stays (recoded m.codes from.0 0) to.0 m.rest.number d ne.1.0
          ∙ code_stays m.codes from.0 0 d ne.0;
      other_entries =
          λ d ne.
          entered_with to.0 d (with_record itself from.0 m.rest.entered) ne.1.0
          ∙ entered_with from.0 d m.rest.entered ne.0;
      under_stays = refl;
      number_stays = refl;
    }
notice_law m (Withdraw day) up =
    record {
      other_codes = λ d ne. code_stays m.codes day.0 (m.rest.under day.0) d ne.0;
      other_entries = λ d ne. entered_without day.0 d 0 m.rest.entered up ne.0;
      under_stays = refl;
      number_stays = refl;
    }

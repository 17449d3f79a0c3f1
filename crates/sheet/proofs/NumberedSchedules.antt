-- The schedule of a number, found by its place.
use Rattle.std.proofs.Common.{◌≡◌, ℕ, suc, Bool, true, false, cond, Option, List, [], ◌∷◌, get_or, Some, None, Ok, Err, sym, refl, arith}
use Rattle.std.proofs.lemmas.Bool.Decides.{nat_tests}
use Rattle.std.proofs.lemmas.Bool.{false≢true}
use Rattle.std.specs.Option.{option_map, option_and_then, option_copied}
use Rattle.std.specs.Result.{result_ok}
use denote.Ref.{Bor}
use Rattle.tables.specs.Tables.{rising, place, has, found}
use Rattle.tables.proofs.Rises.{has_below}
use Rattle.generation.specs.declared.schedule.Schedule.{Schedule}
use Rattle.generation.specs.Schedules.{seen_schedule}
use Rattle.sheet.specs.KeptBonds.{Place, kept, all_live, place_number}
use Rattle.sheet.specs.Readings.{schedule_numbered}

-- no bond has the number
pub none_numbered : (n low : ℕ) (ps : List Place) → all_live ps ≡ true → rising place_number low ps ≡ true → has place_number n ps ≡ false
    → schedule_numbered n (kept ps) ≡ None
unfolding kept schedule_numbered
none_numbered n low [] l r h = refl
none_numbered n low (None ∷ ps) l r h = absurd (false≢true l)
none_numbered n low (Some s ∷ ps) l r h =
    let more = none_numbered n (suc (place_number (Some s))) ps l in
    let below = has_below place_number n (suc (place_number (Some s))) ps in
    grind (arith, nat_tests)

-- the bond of the number stands at its place
pub one_numbered : (n low : ℕ) (ps : List Place) (d : Place) → all_live ps ≡ true → rising place_number low ps ≡ true → has place_number n ps ≡ true
    → option_map seen_schedule (get_or ps (place place_number n ps) d) ≡ schedule_numbered n (kept ps)
unfolding kept schedule_numbered
one_numbered n low [] d l r h = absurd (false≢true h)
one_numbered n low (None ∷ ps) d l r h = absurd (false≢true l)
one_numbered n low (Some t ∷ ps) d l r h = let more = one_numbered n (suc (place_number (Some t))) ps d l in grind (arith, nat_tests)

-- what a search among the live places answers, with the schedule that stands there
pub numbered : (n : ℕ) (ps : List Place) (d : Place) → all_live ps ≡ true → rising place_number 0 ps ≡ true → (r : Option ℕ) → r ≡ result_ok (found place_number n ps)
    → option_map seen_schedule (option_and_then (λ (i : ℕ). get_or ps i d) r) ≡ schedule_numbered n (kept ps)
numbered n ps d l up r e = go (has place_number n ps) refl e
  where
    go : (b : Bool) → has place_number n ps ≡ b → r ≡ result_ok (cond b (Ok (place place_number n ps)) (Err (place place_number n ps)))
        → option_map seen_schedule (option_and_then (λ (i : ℕ). get_or ps i d) r) ≡ schedule_numbered n (kept ps)
    go true h f = rw f (one_numbered n 0 ps d l up h)
    go false h f = rw f (sym (none_numbered n 0 ps l up h))

-- a schedule that is lent is seen as it stands
pub seen_lent : (o : Option (Bor Schedule)) → option_map (λ (s : Bor Schedule). seen_schedule s.now) o ≡ option_map seen_schedule (option_copied o)
seen_lent None = refl
seen_lent (Some s) = refl

-- What is summed over the schedules that stand in places.
use Rattle.std.proofs.Common.{◌≡◌, ℕ, ◌*◌, ◌≤◌, Bool, true, false, cond, Option, List, [], ◌∷◌, length, Some, None, refl, ap, ◌∙◌, sym, subst, arith}
use Rattle.std.proofs.lemmas.Iterator.{YieldsList, YieldsList-from_slice}
use Rattle.std.proofs.lemmas.Iterator.Adapters.{YieldsList-from_flatten}
use Rattle.std.proofs.lemmas.Iterator.Consumers.{YieldsList-from_shown}
use Rattle.std.proofs.lemmas.List.Sums.{sum_by-cons}
use Rattle.std.proofs.iter.Yields.{fronts}
use Rattle.std.specs.Bool.{MatchBool}
use Rattle.std.specs.Iterator.Adapters.{flatten_source, flatten_front, flatten_back, flatten_done, flatten_steps, option_iter_item, option_iter_done, option_iter_steps}
use Rattle.std.specs.declared.iter.Flatten.{Flatten}
use Rattle.std.specs.declared.option.Iter.{OptionIter}
use Rattle.std.specs.declared.slice.Iter.{Iter}
use Rattle.std.specs.List.{flat_map, sum_by}
use Rattle.std.specs.Option.{option_to_list}
use Rattle.std.specs.Slice.Iter.{iter_rest}
use denote.Ref.{Bor}
use Rattle.generation.specs.declared.schedule.Schedule.{Schedule}
use Rattle.generation.specs.Schedules.{seen_schedule}
use Rattle.generation.specs.Retrying.{counted_in}
use Rattle.generation.proofs.ScheduleLengths.{seen_length, counted as rolls_counted}
use Rattle.sheet.specs.FreshSheets.{roll_total}
use Rattle.sheet.specs.KeptBonds.{Place, kept, bonds_of}
use Rattle.sheet.specs.Notices.{counted}

-- the schedules that stand in places
abbrev pub live : List Place → List Schedule
live ps = flat_map option_to_list ps

-- the rolls of one
abbrev pub size : Schedule → ℕ
size s = length (seen_schedule s).days

-- their rolls are those of the bonds
pub total_of : (ps : List Place) → sum_by size (live ps) ≡ roll_total (bonds_of (kept ps))
unfolding kept roll_total
total_of [] = refl
total_of (None ∷ ps) = total_of ps
total_of (Some s ∷ ps) = let l = seen_length s in omega (arith, sum_by-cons size s (live ps), total_of ps)

-- the rolls that count are those of what is kept
pub counted_of : (tries : ℕ → List ℕ) (days : List ℕ) (ps : List Place) → sum_by (λ (s : Schedule). counted_in tries days (seen_schedule s)) (live ps) ≡ counted tries days (kept ps)
unfolding kept counted
counted_of tries days [] = refl
counted_of tries days (None ∷ ps) = counted_of tries days ps
counted_of tries days (Some s ∷ ps) = omega (arith, sum_by-cons (λ (x : Schedule). counted_in tries days (seen_schedule x)) s (live ps), counted_of tries days ps)

-- there are no more than the places
pub few : (ps : List Place) → length (live ps) ≤ length ps
few [] = omega arith
few (None ∷ ps) = omega (arith, few ps)
few (Some s ∷ ps) = omega (arith, few ps)

-- each has at most 100
pub total_few : (ps : List Place) → sum_by size (live ps) ≤ 100 * length ps
total_few [] = omega arith
total_few (None ∷ ps) = omega (arith, total_few ps)
total_few (Some s ∷ ps) =
    let l = seen_length s in
    let n = rolls_counted s in
    omega (arith, sum_by-cons size s (live ps), s.rolls.few, total_few ps)

-- what an iterator over an option has left
abbrev left : OptionIter Schedule → List Schedule
left s = cond (option_iter_done s) [] (option_to_list (option_iter_item s))

none_left : (done : Bool) (o : Option Schedule) → MatchBool done (◌≡◌ {A = Option (Bor Schedule)} None None) (None ≡ o) → length (cond done [] (option_to_list o)) ≡ 0
none_left true o h = refl
none_left false o h = ap (λ (k : Option Schedule). length (option_to_list k)) (sym h)

one_left : (done : Bool) (o : Option Schedule) (x : Bor Schedule) → MatchBool done (Some x ≡ None) (Some x.now ≡ o) → cond done [] (option_to_list o) ≡ x.now ∷ []
one_left true o x h = let z : ◌≡◌ {A = ℕ} 0 1 = cc in absurd (let w : ⊥ = omega arith in w)
one_left false o x h = ap option_to_list (sym h)

from_option : (s : OptionIter Schedule) → YieldsList option_iter_steps (λ y. y.now) s (left s)
from_option s = YieldsList-from_shown option_iter_steps (λ y. y.now) left
    (λ u t h. none_left (option_iter_done u) (option_iter_item u) h.1)
    (λ u x t h. one_left (option_iter_done u) (option_iter_item u) x h.1 ∙ ap (λ (b : Bool). x.now ∷ cond b [] (option_to_list (option_iter_item t))) (sym h.0)) s

-- what an iterator over the live schedules in places gives
pub gives_live : {s : Flatten (Iter Place) (OptionIter Schedule)} (opens : Bor Place → OptionIter Schedule → Type 0)
    → ((x : Bor Place) (j : OptionIter Schedule) → opens x j → (option_iter_item j ≡ x.now) × (option_iter_done j ≡ false)) → (ps : List Place)
    → iter_rest (flatten_source s) ≡ ps → flatten_front s ≡ None → flatten_back s ≡ None → flatten_done s ≡ false
    → YieldsList (flatten_steps fronts opens option_iter_steps) (λ y. y.now) s (live ps)
gives_live opens fresh ps rest front back done =
    YieldsList-from_flatten opens option_iter_steps (λ y. y.now) option_to_list
    (λ x j h. let f = fresh x j h in subst (YieldsList option_iter_steps (λ y. y.now) j) (λ i. cond (f.1 i) [] (option_to_list (f.0 i))) (from_option j))
    (YieldsList-from_slice ps rest) front back done

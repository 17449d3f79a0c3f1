-- Places as a notice would leave them, one after another.
use Rattle.std.proofs.Common.{◌≡◌, ℕ, zero, suc, ◌+◌, ◌<◌, ◌≤◌, true, List, [], ◌∷◌, ◌++◌, map, length, get_or, take, drop, set, Some, None, Ok, Err, Result, sym, refl, ap, ◌∙◌, append-nil, arith}
use Rattle.std.proofs.lemmas.List.{drop_more, drop_all, take_all, take_more_set, drop-set-lt}
use Rattle.std.proofs.lemmas.Bool.{false≢true}
use Rattle.faults.specs.Refusals.{Refusal}
use Rattle.generation.specs.declared.schedule.Schedule.{Schedule}
use Rattle.generation.specs.Schedules.{Scheduled, seen_schedule}
use Rattle.generation.specs.Granting.{each_granted}
use Rattle.generation.proofs.Granted.{prefixed, prefixed_none, granted_one, refused_one, granted_none}
use Rattle.sheet.specs.KeptBonds.{Place, kept, all_live, place_number}

-- one more live place at the end
kept_push : (ps : List Place) (s : Schedule) → kept (ps ++ (Some s ∷ [])) ≡ kept ps ++ (seen_schedule s ∷ [])
unfolding kept
kept_push [] s = refl
kept_push (None ∷ ps) s = kept_push ps s
kept_push (Some r ∷ ps) s = ap (λ (xs : List Scheduled). seen_schedule r ∷ xs) (kept_push ps s)

-- the schedule in place i stands before those in later places
pub next_kept : (ps : List Place) (i : ℕ) → i < length ps → (d : Place) (s : Schedule) → get_or ps i d ≡ Some s → kept (drop i ps) ≡ seen_schedule s ∷ kept (drop (i + 1) ps)
unfolding kept
next_kept ps i inside d s here = ap kept (drop_more ps i d inside ∙ ap (λ (p : Place). p ∷ drop (i + 1) ps) here)

module _ (f : Scheduled → Result Scheduled Refusal) where
  -- the first i places are done, the others are still to do
  abbrev pub done : ℕ → List Place → Result (List Scheduled) Refusal
  done i ps = prefixed (kept (take i ps)) (each_granted f (kept (drop i ps)))

  pub none_done : (ps : List Place) → done 0 ps ≡ each_granted f (kept ps)
  unfolding kept
  none_done ps = prefixed_none _

  module _ (ps : List Place) (i : ℕ) (inside : i < length ps) (d : Place) (s : Schedule) (here : get_or ps i d ≡ Some s) where
    next : kept (drop i ps) ≡ seen_schedule s ∷ kept (drop (i + 1) ps)
    next = next_kept ps i inside d s here

    -- the next is granted, and stands in its place
    pub one_done : (t : Schedule) → f (seen_schedule s) ≡ Ok (seen_schedule t) → done (i + 1) (set ps i (Some t)) ≡ done i ps
    one_done t e =
        let put : kept (take (i + 1) (set ps i (Some t))) ≡ kept (take i ps) ++ (seen_schedule t ∷ []) = ap kept (take_more_set ps i (Some t) inside) ∙ kept_push (take i ps) t in
        (λ j. prefixed (put j) (each_granted f (kept (drop-set-lt (i + 1) ps i (Some t) (omega arith) j))))
        ∙ sym (granted_one f (kept (take i ps)) (seen_schedule s) (kept (drop (i + 1) ps)) (seen_schedule t) e)
        ∙ ap (λ (xs : List Scheduled). prefixed (kept (take i ps)) (each_granted f xs)) (sym next)

    -- it is refused
    pub one_refused : (e : Refusal) → f (seen_schedule s) ≡ Err e → Err e ≡ done i ps
    one_refused e r =
        sym (refused_one f (kept (take i ps)) (seen_schedule s) (kept (drop (i + 1) ps)) e r) ∙ ap (λ (xs : List Scheduled). prefixed (kept (take i ps)) (each_granted f xs)) (sym next)

  pub all_done : (ps : List Place) (i : ℕ) → length ps ≤ i → Ok (kept ps) ≡ done i ps
  unfolding kept
  all_done ps i l =
      ap Ok (sym (append-nil (kept ps))) ∙ sym (granted_none f (kept ps))
      ∙ sym (λ j. prefixed (kept (take_all i ps l j)) (each_granted f (kept (drop_all i ps l j))))

-- a schedule in place of another of the same bond
pub live_set : (ps : List Place) (i : ℕ) (s : Schedule) → all_live ps ≡ true → all_live (set ps i (Some s)) ≡ true
live_set [] i s e = refl
live_set (None ∷ ps) i s e = absurd (false≢true e)
live_set (Some r ∷ ps) zero s e = e
live_set (Some r ∷ ps) (suc i) s e = live_set ps i s e

pub numbers_set : (ps : List Place) (i : ℕ) (d : Place) (s : Schedule) → place_number (Some s) ≡ place_number (get_or ps i d) → map place_number (set ps i (Some s)) ≡ map place_number ps
numbers_set [] i d s e = refl
numbers_set (p ∷ ps) zero d s e = ap (λ (n : ℕ). n ∷ map place_number ps) e
numbers_set (p ∷ ps) (suc i) d s e = ap (λ (ns : List ℕ). place_number p ∷ ns) (numbers_set ps i d s e)

-- no place of a live bond is free
pub none_free : (ps : List Place) (i : ℕ) (d : Place) → all_live ps ≡ true → i < length ps → get_or ps i d ≡ None → ⊥
none_free [] i d l h e = omega arith
none_free (None ∷ ps) i d l h e = false≢true l
none_free (Some s ∷ ps) zero d l h e = let z : ◌≡◌ {A = ℕ} 0 1 = cc in omega arith
none_free (Some s ∷ ps) (suc i) d l h e = none_free ps i d l (omega arith) e

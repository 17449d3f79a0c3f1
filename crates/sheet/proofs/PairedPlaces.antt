-- The places before and after a notice, pair by pair.
use Rattle.std.proofs.Common.{◌≡◌, ℕ, ◌+◌, ◌<◌, ◌≤◌, true, List, [], ◌++◌, length, get_or, drop, Some, None, ap, ◌∙◌, ap₂, sym, refl, arith}
use Rattle.std.specs.Option.{option_map}
use Rattle.std.proofs.lemmas.List.{drop_all, length-append}
use Rattle.generation.specs.declared.schedule.Schedule.{Schedule}
use Rattle.generation.specs.Schedules.{seen_schedule}
use Rattle.changes.specs.Changes.{Altered, changes_in}
use Rattle.sheet.specs.KeptBonds.{Place, kept, all_live}
use Rattle.sheet.specs.Plans.{both}
use Rattle.sheet.specs.Notices.{changes}
use Rattle.sheet.proofs.PlannedPlaces.{next_kept, none_free}

-- two places that both hold a schedule
both_some : (p q : Place) (s t : Schedule) → both p q ≡ Some (s, t) → (p ≡ Some s) × (q ≡ Some t)
both_some None q s t e = let z : ◌≡◌ {A = ℕ} 0 1 = cc in absurd (let w : ⊥ = omega arith in w)
both_some (Some u) None s t e = let z : ◌≡◌ {A = ℕ} 0 1 = cc in absurd (let w : ⊥ = omega arith in w)
both_some (Some u) (Some v) s t e = (ap (option_map (λ (z : Schedule × Schedule). z.0)) e, ap (option_map (λ (z : Schedule × Schedule). z.1)) e)

-- places of live bonds do
both_live : (ps qs : List Place) (i : ℕ) (d : Place) → all_live ps ≡ true → all_live qs ≡ true → i < length ps → i < length qs → both (get_or ps i d) (get_or qs i d) ≡ None → ⊥
both_live ps qs i d l m h k e = go (get_or ps i d) refl (get_or qs i d) refl e
  where
    go : (p : Place) → get_or ps i d ≡ p → (q : Place) → get_or qs i d ≡ q → both p q ≡ None → ⊥
    go None f q g e = none_free ps i d l h f
    go (Some s) f None g e = none_free qs i d m k g
    go (Some s) f (Some t) g e = let z : ◌≡◌ {A = ℕ} 0 1 = cc in omega arith

module _ (before after : ℕ → ℕ) (old new : List Place) where
  -- the changes from place i on
  abbrev pub from_place : ℕ → List Altered
  from_place i = changes before after (kept (drop i old)) (kept (drop i new))

  -- those of place i come before the later ones
  next_place : (i : ℕ) → i < length old → i < length new → (d e : Place) (s t : Schedule) → get_or old i d ≡ Some s → get_or new i e ≡ Some t
      → from_place i ≡ changes_in before after (seen_schedule s) (seen_schedule t) ++ from_place (i + 1)
  unfolding changes
  next_place i l m d e s t f g = ap₂ (changes before after) (next_kept old i l d s f) (next_kept new i m e t g)

  -- no place is left
  pub no_place_left : (i : ℕ) → length old ≤ i → from_place i ≡ []
  unfolding changes kept
  no_place_left i l = ap (λ (xs : List Place). changes before after (kept xs) (kept (drop i new))) (drop_all i old l)

  -- two places at which a loop has come
  module _ (i : ℕ) (l : i < length old) (m : i < length new) (p q : Place) (e : (d : Place) → p ≡ get_or old i d) (f : (d : Place) → q ≡ get_or new i d) where
    -- what they hold alters before the rest
    pub pair_turn : (s t : Schedule) → both p q ≡ Some (s, t) → from_place i ≡ changes_in before after (seen_schedule s) (seen_schedule t) ++ from_place (i + 1)
    pair_turn s t g = let h = both_some p q s t g in next_place i l m None None s t (sym (e None) ∙ h.0) (sym (f None) ∙ h.1)

    pub pair_length : (s t : Schedule) → both p q ≡ Some (s, t) → length (from_place i) ≡ length (changes_in before after (seen_schedule s) (seen_schedule t)) + length (from_place (i + 1))
    pair_length s t g = ap length (pair_turn s t g) ∙ length-append (changes_in before after (seen_schedule s) (seen_schedule t)) (from_place (i + 1))

    -- neither is free
    pub pair_held : all_live old ≡ true → all_live new ≡ true → both p q ≡ None → ⊥
    pair_held a b g = both_live old new i None a b l m ((λ j. both (sym (e None) j) (sym (f None) j)) ∙ g)

-- Rolls written in their places, one after another.
use Rattle.std.proofs.Common.{◌≡◌, ℕ, ◌+◌, ◌-◌, ◌<◌, ◌≤◌, List, [], ◌∷◌, ◌++◌, map, length, take, set, Ok, Err, Result, sym, ap, ◌∙◌, arith}
use Rattle.std.proofs.lemmas.List.{take-append-le, take_more_set, map_push, length-set}
use Rattle.faults.specs.Refusals.{Refusal}
use Rattle.conventions.specs.Turns.{upward}
use Rattle.generation.specs.declared.roll.Roll.{Roll}
use Rattle.generation.specs.Rolls.{RollDays}
use Rattle.generation.specs.Granting.{each_granted}
use Rattle.generation.specs.Views.{seen_roll}
use Rattle.generation.proofs.Granted.{prefixed, granted_more, refused_here, granted_all}

module _ (f : ℕ → Result RollDays Refusal) (n size : ℕ) (whole : Result (List RollDays) Refusal) where
  -- the rolls below i stand in their places, and those from i on make up the whole
  abbrev pub Filled : ℕ → List Roll → Type 0
  Filled i days = (prefixed (map seen_roll (take i days)) (each_granted f (upward (n - i) i)) ≡ whole) × (length days ≡ size)

  module _ (i : ℕ) (days : List Roll) (so_far : Filled i days) where
    -- the next is granted
    pub filled_more : (r : Roll) → i < n → i < size → f i ≡ Ok (seen_roll r) → Filled (i + 1) (set days i r)
    filled_more r l m e =
        let new : map seen_roll (take i days) ++ (seen_roll r ∷ []) ≡ map seen_roll (take (i + 1) (set days i r)) =
        sym (ap (map seen_roll) (take_more_set days i r (omega (arith, so_far.1))) ∙ map_push seen_roll (take i days) r) in (
          ap (λ (done : List RollDays). prefixed done (each_granted f (upward (n - (i + 1)) (i + 1)))) (sym new)
              ∙ granted_more f n i (map seen_roll (take i days)) whole so_far.0 (seen_roll r) l e,
          length-set days i r ∙ so_far.1,
        )

    -- it is refused
    pub filled_refused : (e : Refusal) → i < n → f i ≡ Err e → Err e ≡ whole
    filled_refused = refused_here f n i (map seen_roll (take i days)) whole so_far.0

    -- there is none left
    pub filled_all : (m : ℕ) → m ≡ i → n ≤ i → Ok (map seen_roll (take m days)) ≡ whole
    filled_all m e l = ap (λ (k : ℕ). Ok (map seen_roll (take k days))) e ∙ granted_all f n i (map seen_roll (take i days)) whole so_far.0 l

    -- the same where other places follow
    pub filled_first : (rest : List Roll) (m : ℕ) → m ≡ i → n ≤ i → i ≤ size → Ok (map seen_roll (take m (days ++ rest))) ≡ whole
    filled_first rest m e l h = ap (λ (x : List Roll). Ok (map seen_roll x)) (take-append-le m days rest (omega (arith, so_far.1))) ∙ filled_all m e l

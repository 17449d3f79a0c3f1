-- The refusal of a schedule is that of its first failing roll.
use Rattle.std.proofs.Common.{◌≡◌, ℕ, ◌<◌, Bool, true, List, length, get_or, is_ok, Ok, Err, Result, sym, ap, ◌∙◌, zero-add, arith}
use Rattle.faults.specs.Refusals.{Refusal}
use Rattle.bonds.specs.declared.terms.Terms.{Terms}
use Rattle.bonds.specs.Rolls.{rolls}
use Rattle.generation.specs.Rolls.{RollDays}
use Rattle.generation.specs.BondRolls.{bond_roll}
use Rattle.generation.specs.Schedules.{Scheduled, all_rolls, scheduled, schedule_answer, FirstFault}
use Rattle.generation.proofs.Granted.{all_were_granted, first_was_refused}

module _ (good : ℕ → Bool) (tries : ℕ → List ℕ) (t : Terms) where
  -- the rolls of a schedule that was granted
  pub its_rolls : (s : Scheduled) (r : Result (List RollDays) Refusal) → scheduled t r ≡ Ok s → r ≡ Ok s.days
  its_rolls s (Err e) p = absurd (grind arith)
  its_rolls s (Ok days) p = let z : record { terms = t; days = days } ≡ s = cc in ap (λ (x : Scheduled). Ok x.days) z

  its_refusal : (e : Refusal) (r : Result (List RollDays) Refusal) → scheduled t r ≡ Err e → r ≡ Err e
  its_refusal e (Err u) p = let z : u ≡ e = cc in ap Err z
  its_refusal e (Ok days) p = absurd (grind arith)

  pub first_fault : FirstFault good tries t
  first_fault = record { granted = granted; refused = refused }
    where
      f : ℕ → Result RollDays Refusal
      f = bond_roll good tries t

      granted : (s : Scheduled) → schedule_answer good tries t ≡ Ok s
          → (length s.days ≡ length (rolls t)) × ((i : ℕ) (d : RollDays) → i < length (rolls t) → bond_roll good tries t i ≡ Ok (get_or s.days i d))
      granted s e =
          let r = all_were_granted (bond_roll good tries t) (length (rolls t)) 0 s.days (its_rolls s (all_rolls good tries t) e) in
          (r.many, λ i d l. ap (bond_roll good tries t) (sym (zero-add i)) ∙ r.each i d l)

      refused : (e : Refusal) → schedule_answer good tries t ≡ Err e
          → (i : ℕ) × (i < length (rolls t)) × (bond_roll good tries t i ≡ Err e) × ((j : ℕ) → j < i → is_ok (bond_roll good tries t j) ≡ true)
      refused e s =
          let r = first_was_refused (bond_roll good tries t) (length (rolls t)) 0 e (its_refusal e (all_rolls good tries t) s) in (
            r.place,
            r.inside,
            ap (bond_roll good tries t) (sym (zero-add r.place)) ∙ r.here,
            λ j l. ap (λ (m : ℕ). is_ok (bond_roll good tries t m)) (sym (zero-add j)) ∙ r.before j l,
          )

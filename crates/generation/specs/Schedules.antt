-- The whole schedule of a bond: all its rolls, generated.
use Rattle.std.specs.Prelude.{◌≡◌, ℕ, ◌+◌, ◌<◌, Bool, true, List, map, length, take, is_ok, None, Ok, Err, Result, slice_index_or}
use Rattle.faults.specs.Refusals.{Refusal}
use Rattle.conventions.specs.Turns.{upward}
use Rattle.bonds.specs.declared.terms.Terms.{Terms}
use Rattle.bonds.specs.Rolls.{rolls}
use Rattle.generation.specs.declared.schedule.Schedule.{Schedule}
use Rattle.generation.specs.Rolls.{RollDays}
use Rattle.generation.specs.BondRolls.{bond_roll}
use Rattle.generation.specs.Granting.{each_granted}
use Rattle.generation.specs.Views.{seen_roll}

-- a bond's terms, and what is generated of its rolls
pub record Scheduled : Type 0 where
  pub terms : Terms
  pub days : List RollDays

-- roll i of a schedule
abbrev pub roll_in : Scheduled → ℕ → RollDays
roll_in s i = slice_index_or s.days i (record { adjusted = 0; fixing = None })

-- all rolls of a bond from roll 0 on, or the refusal of the first that fails
abbrev pub all_rolls : (ℕ → Bool) → (ℕ → List ℕ) → Terms → Result (List RollDays) Refusal
all_rolls good tries t = each_granted (bond_roll good tries t) (upward (length (rolls t)) 0)

-- the terms beside the rolls
abbrev pub scheduled : Terms → Result (List RollDays) Refusal → Result Scheduled Refusal
scheduled t (Err e) = Err e
scheduled t (Ok days) = Ok (record { terms = t; days = days })

abbrev pub schedule_answer : (ℕ → Bool) → (ℕ → List ℕ) → Terms → Result Scheduled Refusal
schedule_answer good tries t = scheduled t (all_rolls good tries t)

-- a schedule has every roll as it is generated; a refusal is that of a roll before which all are granted
pub record FirstFault (good : ℕ → Bool) (tries : ℕ → List ℕ) (t : Terms) : Type 0 where
  pub granted : (s : Scheduled) → schedule_answer good tries t ≡ Ok s
      → (length s.days ≡ length (rolls t)) × ((i : ℕ) (d : RollDays) → i < length (rolls t) → bond_roll good tries t i ≡ Ok (slice_index_or s.days i d))
  pub refused : (e : Refusal) → schedule_answer good tries t ≡ Err e
      → (i : ℕ) × (i < length (rolls t)) × (bond_roll good tries t i ≡ Err e) × ((j : ℕ) → j < i → is_ok (bond_roll good tries t j) ≡ true)

-- what a schedule of the code holds
abbrev pub seen_schedule : Schedule → Scheduled
seen_schedule s = record { terms = s.rolls.terms; days = map seen_roll (take (s.rolls.inner + 2) s.days) }

-- The adjusted day of a roll that was generated, or that was kept of one, is near its unadjusted day.
use Rattle.std.proofs.Common.{◌≡◌, ℕ, ◌+◌, ◌<◌, ◌≤◌, Bool, true, false, cond, List, map, length, get_or, take, Some, Ok, Result, sym, ap, ◌∙◌, subst, zero-add, arith}
use Rattle.std.proofs.lemmas.Bool.{lt-ltb}
use Rattle.std.proofs.lemmas.List.{length-map, length-take-le, get_or-map, get_or-take}
use Rattle.faults.specs.Refusals.{Refusal}
use Rattle.conventions.specs.Tries.{Served, Among}
use Rattle.conventions.specs.Growing.{found}
use Rattle.conventions.specs.Turns.{upward}
use Rattle.bonds.specs.declared.terms.Terms.{Terms}
use Rattle.bonds.specs.Rolls.{rolls}
use Rattle.generation.specs.declared.roll.Roll.{Roll}
use Rattle.generation.specs.declared.schedule.Schedule.{Schedule}
use Rattle.generation.specs.Rolls.{RollDays}
use Rattle.generation.specs.NearRolls.{Near, NearRolls}
use Rattle.generation.specs.BondRolls.{bond_roll}
use Rattle.generation.specs.Granting.{each_granted}
use Rattle.generation.specs.Schedules.{Scheduled, roll_in, seen_schedule}
use Rattle.generation.specs.Retrying.{counts, retried_roll}
use Rattle.generation.specs.Views.{seen_roll}
use Rattle.generation.proofs.Granted.{all_were_granted}
use Rattle.generation.proofs.Ordering.{granted}
use Rattle.generation.proofs.ScheduleLengths.{seen_at}

-- no day tried is far away
abbrev pub NearTries : (ℕ → List ℕ) → Type 0
NearTries tries = (u d : ℕ) → Served u → Among d (tries u) → Near u d

-- so it is under each convention, whose reach is at most 30 days
pub near_tries : (tries : ℕ → List ℕ) (reach : ℕ) → reach ≤ 30
    → ((u d : ℕ) → Served u → Among d (tries u) → (u ≤ d + reach) × (d ≤ u + reach)) → NearTries tries
near_tries tries reach small near u d s m = let n = near u d s m in (omega arith, omega arith)

-- a roll that was generated is near
pub generated_near : (good : ℕ → Bool) (tries : ℕ → List ℕ) (t : Terms) (i : ℕ) (r : RollDays) → NearTries tries → i < length (rolls t)
    → bond_roll good tries t i ≡ Ok r → Near (get_or (rolls t) i 0) r.adjusted
generated_near good tries t i r near l e =
    let g = granted good tries t i r (rw (lt-ltb i (length (rolls t)) l) (ap Some e)) in
    let f = found good (tries (get_or (rolls t) i 0)) r.adjusted g.first in
    near (get_or (rolls t) i 0) r.adjusted g.serves (f.place, f.within, f.here)

-- one that is tried anew or left is near, if it was
pub retried_near : (good : ℕ → Bool) (tries : ℕ → List ℕ) (days : List ℕ) (x : Scheduled) (i : ℕ) (r : RollDays) → NearTries tries
    → i < length (rolls x.terms) → Near (get_or (rolls x.terms) i 0) (roll_in x i).adjusted
    → retried_roll good tries days x i ≡ Ok r → Near (get_or (rolls x.terms) i 0) r.adjusted
retried_near good tries days x i r near l was = go (counts tries days x i)
  where
    go : (b : Bool) → cond b (bond_roll good tries x.terms i) (Ok (roll_in x i)) ≡ Ok r → Near (get_or (rolls x.terms) i 0) r.adjusted
    go true e = generated_near good tries x.terms i r near l e
    go false e = let s : roll_in x i ≡ r = cc in subst (λ (y : RollDays). Near (get_or (rolls x.terms) i 0) y.adjusted) s was

-- what was granted of all rolls in order, each of them near, stands near in its place
pub granted_near : (t : Terms) (f : ℕ → Result RollDays Refusal) (n m : ℕ) (days : List Roll) → n ≡ length (rolls t)
    → ((i : ℕ) (r : Roll) → i < length (rolls t) → f i ≡ Ok (seen_roll r) → Near (get_or (rolls t) i 0) r.adjusted.number)
    → Ok (map seen_roll (take m days)) ≡ each_granted f (upward n 0) → m ≤ length days → NearRolls t days
granted_near t f n m days e near a b i r l =
    let g = all_were_granted f n 0 (map seen_roll (take m days)) (sym a) in
    let k : i < length (take m days) = omega (arith, g.many, length-map (take m days) seen_roll) in
    let h : i < m = omega (arith, length-take-le m days b) in
    let s : get_or (map seen_roll (take m days)) i (seen_roll r) ≡ seen_roll (get_or days i r) =
    get_or-map seen_roll (take m days) i r (seen_roll r) k ∙ ap seen_roll (get_or-take m days i r h) in
    near i (get_or days i r) l (ap f (sym (zero-add i)) ∙ g.each i (seen_roll r) (omega arith) ∙ ap Ok s)

-- the rolls that are seen of a schedule are near
pub seen_near : (s : Schedule) (i : ℕ) (r : Roll) → i < length (rolls s.rolls.terms)
    → Near (get_or (rolls s.rolls.terms) i 0) (roll_in (seen_schedule s) i).adjusted
seen_near s i r l = subst (λ (x : RollDays). Near (get_or (rolls s.rolls.terms) i 0) x.adjusted) (sym (seen_at s i r _ l)) (s.near i r l)

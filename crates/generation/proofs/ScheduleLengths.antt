-- The rolls that a schedule of the code holds.
use Rattle.std.proofs.Common.{◌≡◌, ℕ, ◌+◌, ◌<◌, ◌≤◌, length, get_or, take, Some, None, Option, ap, ◌∙◌, arith}
use Rattle.std.proofs.lemmas.List.{length-take-le, length-map, get_or-map, get_or-take}
use Rattle.std.proofs.lemmas.Bool.{lt-ltb}
use Rattle.conventions.specs.declared.unadjusted.Unadjusted.{Unadjusted}
use Rattle.bonds.specs.Rolls.{rolls, roll_at}
use Rattle.bonds.proofs.Rolling.{rolls_length}
use Rattle.generation.specs.declared.schedule.Schedule.{Schedule}
use Rattle.generation.specs.declared.roll.Roll.{Roll}
use Rattle.generation.specs.Rolls.{RollDays}
use Rattle.generation.specs.Schedules.{seen_schedule}
use Rattle.generation.specs.Views.{seen_roll}

-- as many as the bond's terms give
pub counted : (s : Schedule) → s.rolls.inner + 2 ≡ length (rolls s.rolls.terms)
counted s = let l = rolls_length s.rolls.terms in omega (arith, s.rolls.counted)

inside : (s : Schedule) → s.rolls.inner + 2 ≤ length s.days
inside s = omega (arith, s.rolls.few, s.size)

pub seen_length : (s : Schedule) → length (seen_schedule s).days ≡ length (rolls s.rolls.terms)
seen_length s =
    length-map (take (s.rolls.inner + 2) s.days) seen_roll ∙ length-take-le (s.rolls.inner + 2) s.days (inside s) ∙ counted s

-- a roll is seen as it stands in its place
pub seen_at : (s : Schedule) (i : ℕ) (d : Roll) (e : RollDays) → i < length (rolls s.rolls.terms) → get_or (seen_schedule s).days i e ≡ seen_roll (get_or s.days i d)
seen_at s i d e l =
    let n = counted s in
    get_or-map seen_roll (take (s.rolls.inner + 2) s.days) i d e
    (let t = length-take-le (s.rolls.inner + 2) s.days (inside s) in omega arith)
    ∙ ap seen_roll (get_or-take (s.rolls.inner + 2) s.days i d (omega arith))

-- the unadjusted day of a roll
pub roll_there : (s : Schedule) (i : ℕ) (u : Unadjusted) → i < s.rolls.inner + 2 → Some u ≡ roll_at s.rolls.terms i → u.0 ≡ get_or (rolls s.rolls.terms) i 0
roll_there s i u l e =
    let n = counted s in
    let b = lt-ltb i (length (rolls s.rolls.terms)) (omega arith) in
    let f : Some u ≡ Some (record { 0 = get_or (rolls s.rolls.terms) i 0 }) = rw b at e in
    let v : u ≡ record { 0 = get_or (rolls s.rolls.terms) i 0 } = cc in
    ap (λ (x : Unadjusted). x.0) v

pub never_absent : (s : Schedule) (i : ℕ) → i < s.rolls.inner + 2 → None ≡ roll_at s.rolls.terms i → ⊥
never_absent s i l e =
    let n = counted s in
    let b = lt-ltb i (length (rolls s.rolls.terms)) (omega arith) in
    let f : ◌≡◌ {A = Option Unadjusted} None (Some (record { 0 = get_or (rolls s.rolls.terms) i 0 })) = rw b at e in
    let z : ◌≡◌ {A = ℕ} 0 1 = cc in
    omega arith

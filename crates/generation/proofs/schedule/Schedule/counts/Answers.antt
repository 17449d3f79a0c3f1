use Rattle.std.proofs.Common.{◌≡◌, ℕ, ◌<◌, false, List, map, length, get_or, sym, ap, ◌∙◌, arith, rules}
use Rattle.bonds.specs.Rolls.{rolls}
use Rattle.generation.specs.Rolls.{Span, footing}
use Rattle.generation.specs.Schedules.{seen_schedule, roll_in}
use Rattle.generation.specs.Retrying.{holds_one, widest, counts}
use Rattle.generation.specs.Views.{number_of, seen_roll}
use Rattle.generation.proofs.ScheduleLengths.{counted, seen_at, roll_there, never_absent}
use Rattle.generation.proofs.Nearness.{NearTries, near_tries, seen_near}
use Rattle.generation.proofs.Widest.{far_away}
use Rattle.generation.proofs.schedule.Schedule.counts.Goals as goal

pub returns-in_default : goal.returns-in_default
returns-in_default g c = absurd (never_absent c.args.self.now c.args.i c.requires c.in_default.ensures.is)

pub returns-then-not-holds_one : goal.returns-then-not-holds_one
returns-then-not-holds_one g c =
    let s = c.args.self.now in
    let x = seen_schedule s in
    let i = c.args.i in
    let r = c.index-self-i.result in
    let days = map number_of c.args.days.now in
    let convention = c.args.convention.now in
    let tries : ℕ → List ℕ = g.C.Convention.tries convention in
    let law = g.met.C.Convention in
    let near : NearTries tries = near_tries tries g.C.Convention.REACH (law.small convention) (law.near convention) in
    let l : i < length (rolls s.rolls.terms) = (let n = counted s in omega (arith, c.requires)) in
    let none : holds_one (widest (roll_in x i)) days ≡ false =
    ap (λ (f : Span). holds_one f days) (ap widest (seen_at s i r _ l) ∙ sym c.widest.ensures) ∙ sym c.holds_one.ensures ∙ c.if-not-holds_one.true in
    sym (far_away tries days x i near l (seen_near s i r l) none)

pub returns : goal.returns
unfolding counts
returns g c =
    let s = c.args.self.now in
    let days = map number_of c.args.days.now in
    let tries : ℕ → List ℕ = g.C.Convention.tries c.args.convention.now in
    let n = counted s in
    let u : c.in-Some.u.0 ≡ get_or (rolls s.rolls.terms) c.args.i 0 = roll_there s c.args.i c.in-Some.u c.requires c.in-Some.ensures.is in
    let r : seen_roll c.index-self-i.result ≡ roll_in (seen_schedule s) c.args.i =
    ap seen_roll c.index-self-i.is ∙ sym (seen_at s c.args.i c.index-self-i.result _ (omega (arith, c.requires))) in
    let held : c.is_ok_and.result ≡ holds_one (footing c.in-Some.u.0 (tries c.in-Some.u.0) (seen_roll c.index-self-i.result)) days = search rules in
    held ∙ (λ i. holds_one (footing (u i) (tries (u i)) (r i)) days)

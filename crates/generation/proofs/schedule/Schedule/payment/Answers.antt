use Rattle.std.proofs.Common.{◌≡◌, ℕ, ◌-◌, ◌<◌, ◌≤◌, length, Some, sym, ap, ◌∙◌, arith}
use Rattle.std.proofs.lemmas.Bool.Decides.{nat_tests}
use Rattle.bonds.specs.Rolls.{rolls}
use Rattle.generation.specs.Schedules.{Scheduled, roll_in, seen_schedule}
use Rattle.generation.specs.Payments.{payment_of, payment_at}
use Rattle.generation.proofs.ScheduleLengths.{seen_length, seen_at}
use Rattle.generation.proofs.schedule.Schedule.payment.Goals as goal

-- a payment that a schedule has
there : (s : Scheduled) (k : ℕ) → 1 ≤ k → k < length s.days
    → payment_at s k ≡ Some (payment_of s.terms.face s.terms.rate (roll_in s (k - 1)) (roll_in s k))
there s k a b = grind (arith, nat_tests)

pub returns : goal.returns
returns c =
    let s = c.args.self.now in
    let x = seen_schedule s in
    let k = c.args.k in
    let n = seen_length s in
    let m = c.count.ensures.is in
    let w : (1 ≤ k) × (k < length (rolls s.rolls.terms)) = (grind (arith, nat_tests), grind (arith, nat_tests)) in
    let l : k - 1 < length (rolls s.rolls.terms) = omega arith in
    let from = sym (seen_at s (k - 1) c.index-self-at.result _ l) in
    let to = sym (seen_at s k c.index-self-at-2.result _ w.1) in
    ap Some (c.between.ensures ∙ λ j. payment_of (c.terms-terms.ensures j).face (c.terms-terms.ensures j).rate (from j) (to j))
    ∙ sym (there x k w.0 (omega (arith, w.1)))

-- A payment that altered, from the two payments that were read.
use Rattle.std.proofs.Common.{◌≡◌, Bool, true, false, cond, ◌&&◌, not, eqb, Some, None, Option, refl, ap, ◌∙◌, ℕ}
use Rattle.std.specs.Bool.{then_some}
use Rattle.std.specs.Option.{option_map, option_eq}
use Rattle.dates.specs.declared.day.Day.{Day}
use Rattle.generation.specs.declared.payment.Payment.{Payment}
use Rattle.generation.specs.Payments.{Due, payment_at, seen_payment}
use Rattle.generation.specs.Schedules.{Scheduled}
use Rattle.generation.specs.Views.{number_of}
use Rattle.changes.specs.Changes.{same_fixing, same_due, differing, altered_payment, seen_pair}

-- two days are the same
abbrev same_day : Day → Day → Bool
same_day a b = eqb a.0 b.0

same_fixings : (a b : Option Day) → option_eq same_day a b ≡ same_fixing (option_map number_of a) (option_map number_of b)
same_fixings None None = refl
same_fixings None (Some b) = refl
same_fixings (Some a) None = refl
same_fixings (Some a) (Some b) = refl

-- two payments that were read, if they are not equal
pub unequal : (p q : Payment) (b : Bool)
    → b ≡ not (eqb p.date.number q.date.number && (option_eq same_day p.fixing q.fixing && (eqb p.days q.days && eqb p.amount q.amount)))
    → option_map seen_pair (then_some b (p, q)) ≡ differing (Some (seen_payment p)) (Some (seen_payment q))
unequal p q b e =
    let f : b ≡ not (same_due (seen_payment p) (seen_payment q)) =
    e ∙ ap (λ (t : Bool). not (eqb p.date.number q.date.number && (t && (eqb p.days q.days && eqb p.amount q.amount)))) (same_fixings p.fixing q.fixing) in
    ap (λ (t : Bool). option_map seen_pair (then_some t (p, q))) f ∙ go (same_due (seen_payment p) (seen_payment q))
  where
    go : (s : Bool) → option_map seen_pair (then_some (not s) (p, q)) ≡ cond s None (Some (seen_payment p, seen_payment q))
    go true = refl
    go false = refl

module _ (x y : Scheduled) (k : ℕ) where
  -- the two payments as read
  pub altered_from : (o u : Option Due) → o ≡ payment_at x k → u ≡ payment_at y k → differing o u ≡ altered_payment x y k
  unfolding altered_payment
  altered_from o u e f = λ i. differing (e i) (f i)

  -- both have one: it altered unless it is the same
  pub both_have : (p q : Due) (b : Bool) → Some p ≡ payment_at x k → Some q ≡ payment_at y k → b ≡ same_due p q
      → cond b None (Some (p, q)) ≡ altered_payment x y k
  both_have p q b e f s = ap (λ (t : Bool). cond t None (Some (p, q))) s ∙ altered_from (Some p) (Some q) e f

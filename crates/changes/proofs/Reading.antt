-- What a payment that a schedule has tells.
use Rattle.std.proofs.Common.{◌≡◌, ℕ, ◌-◌, ◌<◌, ◌≤◌, Bool, true, false, cond, ◌&&◌, ltb, leb, length, Some, None, Option, sym, refl, ap, ◌∙◌, arith}
use Rattle.std.proofs.lemmas.Bool.{and_parts, leb-true, ltb-true}
use Rattle.generation.specs.Payments.{Due, payment_at, payment_of}
use Rattle.generation.specs.Schedules.{Scheduled, roll_in}
use Rattle.changes.specs.Changes.{same_due, differing, altered_payment}

-- payment k stands among the payments of a schedule, and falls due on the adjusted day of roll k
pub record Stands (x : Scheduled) (k : ℕ) (p : Due) : Type 0 where
  pub from_one : 1 ≤ k
  pub inside : k < length x.days
  pub due : (roll_in x k).adjusted ≡ p.date

pub stands : (x : Scheduled) (k : ℕ) (p : Due) → payment_at x k ≡ Some p → Stands x k p
stands x k p e = go (leb 1 k && ltb k (length x.days)) refl e
  where
    go : (b : Bool) → (leb 1 k && ltb k (length x.days)) ≡ b
        → cond b (Some (payment_of x.terms.face x.terms.rate (roll_in x (k - 1)) (roll_in x k))) None ≡ Some p → Stands x k p
    go true t s =
        let h = and_parts (leb 1 k) (ltb k (length x.days)) t in
        let q : payment_of x.terms.face x.terms.rate (roll_in x (k - 1)) (roll_in x k) ≡ p = cc in
        record { from_one = leb-true 1 k h.0; inside = ltb-true k (length x.days) h.1; due = ap (λ (d : Due). d.date) q }
    go false t s = absurd (grind arith)

-- a payment that altered is one of each schedule, and they differ
pub record AlteredPair (x y : Scheduled) (k : ℕ) (p : Due × Due) : Type 0 where
  pub was : payment_at x k ≡ Some p.0
  pub becomes : payment_at y k ≡ Some p.1
  pub differs : same_due p.0 p.1 ≡ false

pub pair_of : (x y : Scheduled) (k : ℕ) (p : Due × Due) → Some p ≡ altered_payment x y k → AlteredPair x y k p
unfolding altered_payment
pair_of x y k p e = go (payment_at x k) refl (payment_at y k) refl e
  where
    pick : (u v : Due) (b : Bool) → same_due u v ≡ b → payment_at x k ≡ Some u → payment_at y k ≡ Some v → Some p ≡ cond b None (Some (u, v)) → AlteredPair x y k p
    pick u v true s f g q = absurd (grind arith)
    pick u v false s f g q =
        let r : (u, v) ≡ p = cc in
        record {
          was = f ∙ ap (λ (t : Due × Due). Some t.0) r;
          becomes = g ∙ ap (λ (t : Due × Due). Some t.1) r;
          differs = ap (λ (t : Due × Due). same_due t.0 t.1) (sym r) ∙ s;
        }

    go : (o : Option Due) → payment_at x k ≡ o → (u : Option Due) → payment_at y k ≡ u → Some p ≡ differing o u → AlteredPair x y k p
    go None f u g q = absurd (grind arith)
    go (Some a) f None g q = absurd (grind arith)
    go (Some a) f (Some b) g q = pick a b (same_due a b) refl f g q

-- The list of changes holds each payment that altered, once, in order, and nothing else.
use Rattle.std.specs.Prelude.{◌≡◌, ℕ, ◌<◌, false, length, get_or, Some, slice_index_or}
use Rattle.generation.specs.Payments.{Due, payment_at}
use Rattle.generation.specs.Schedules.{Scheduled}
use Rattle.changes.specs.Changes.{same_due, Altered, changes_in}

-- a change is a payment that both schedules have and that differs, with the code of each date on the other side of the change
pub record AlteredBetween (before after : ℕ → ℕ) (x y : Scheduled) (c : Altered) : Type 0 where
  pub was : payment_at x c.payment ≡ Some c.old
  pub becomes : payment_at y c.payment ≡ Some c.new
  pub differs : same_due c.old c.new ≡ false
  pub bond : c.bond ≡ x.terms.number
  pub closes_old : c.closes_old ≡ after c.old.date
  pub closed_new : c.closed_new ≡ before c.new.date

-- each entry is such a change; every payment that differs has an entry; the payment numbers rise
pub record ListedExactly (before after : ℕ → ℕ) (x y : Scheduled) : Type 0 where
  pub only : (i : ℕ) (d : Altered) → i < length (changes_in before after x y) → AlteredBetween before after x y (slice_index_or (changes_in before after x y) i d)
  pub all : (k : ℕ) (p q : Due) → payment_at x k ≡ Some p → payment_at y k ≡ Some q → same_due p q ≡ false
      → (i : ℕ) × (i < length (changes_in before after x y)) × ((d : Altered) → (get_or (changes_in before after x y) i d).payment ≡ k)
  pub rising : (i j : ℕ) (d : Altered) → i < j → j < length (changes_in before after x y)
      → (get_or (changes_in before after x y) i d).payment < (get_or (changes_in before after x y) j d).payment

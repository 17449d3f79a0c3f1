-- The payments of a bond that differ between two schedules of it.
use Rattle.std.specs.Prelude.{ℕ, ◌-◌, Bool, true, false, cond, ◌&&◌, List, [], ◌∷◌, ◌++◌, length, drop, Some, None, Option, ◌==◌, nat_le}
use Rattle.std.specs.Option.{option_map}
use Rattle.conventions.specs.Turns.{upward}
use Rattle.generation.specs.Schedules.{Scheduled}
use Rattle.generation.specs.declared.payment.Payment.{Payment}
use Rattle.generation.specs.Payments.{Due, payment_at, seen_payment}
use Rattle.changes.specs.declared.change.Change.{Change}

-- two fixings are the same
abbrev pub same_fixing : Option ℕ → Option ℕ → Bool
same_fixing None None = true
same_fixing None (Some b) = false
same_fixing (Some a) None = false
same_fixing (Some a) (Some b) = a == b

-- two payments have the same date, fixing, days and amount
abbrev pub same_due : Due → Due → Bool
same_due p q = p.date == q.date && (same_fixing p.fixing q.fixing && (p.days == q.days && p.amount == q.amount))

-- two payments, if there are two and they differ
abbrev pub differing : Option Due → Option Due → Option (Due × Due)
differing None q = None
differing (Some p) None = None
differing (Some p) (Some q) = cond (same_due p q) None (Some (p, q))

-- payment k as it was and as it is, if both schedules have one and it altered
unfoldable pub altered_payment : Scheduled → Scheduled → ℕ → Option (Due × Due)
altered_payment x y k = differing (payment_at x k) (payment_at y k)

-- what two payments of the code hold
abbrev pub seen_pair : Payment × Payment → Due × Due
seen_pair p = (seen_payment p.0, seen_payment p.1)

-- the code of a day; 0 after 31 December 2199
abbrev pub code_on : (ℕ → ℕ) → ℕ → ℕ
code_on codes d = cond (nat_le d 109572) (codes d) 0

-- a payment as it was and as it is, with the code of its old date after the change and the code of its new date before it
pub record Altered : Type 0 where
  pub bond : ℕ
  pub payment : ℕ
  pub old : Due
  pub new : Due
  pub closes_old : ℕ
  pub closed_new : ℕ

-- payment k of a bond, under the codes before and after
abbrev pub alteration : (ℕ → ℕ) → (ℕ → ℕ) → ℕ → ℕ → Due × Due → Altered
alteration before after bond k p =
    record { bond = bond; payment = k; old = p.0; new = p.1; closes_old = after p.0.date; closed_new = before p.1.date }

-- a change before others, if there is one
abbrev pub listed_before : {A B : Type 0} → (A → B) → Option A → List B → List B
listed_before f None others = others
listed_before f (Some a) others = f a ∷ others

-- of some payment numbers those whose payment altered, as changes
unfoldable pub changes_at : (ℕ → ℕ) → (ℕ → ℕ) → Scheduled → Scheduled → List ℕ → List Altered
changes_at before after x y [] = []
changes_at before after x y (k ∷ ks) =
    listed_before (alteration before after x.terms.number k) (altered_payment x y k) (changes_at before after x y ks)

-- the changes of a bond, by payment number
abbrev pub changes_in : (ℕ → ℕ) → (ℕ → ℕ) → Scheduled → Scheduled → List Altered
changes_in before after x y = changes_at before after x y (upward (length x.days - 1) 1)

-- a list written from the start of lent places, if it fits; the places beyond it are untouched
abbrev pub written : {A : Type 0} → List A → List A → List A
written new places = cond (nat_le (length new) (length places)) (new ++ drop (length new) places) places

-- how many were written, if they fit
abbrev pub written_count : {A : Type 0} → List A → List A → Option ℕ
written_count new places = cond (nat_le (length new) (length places)) (Some (length new)) None

-- what a change of the code holds
abbrev pub seen_change : Change → Altered
seen_change c =
    record {
      bond = c.bond;
      payment = c.payment;
      old = seen_payment c.old;
      new = seen_payment c.new;
      closes_old = c.closes_old;
      closed_new = c.closed_new;
    }

-- what a place of a list holds
abbrev pub seen_place : Option Change → Option Altered
seen_place p = option_map seen_change p

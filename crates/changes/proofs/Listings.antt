-- The changes of a bond, payment by payment.
use Rattle.std.proofs.Common.{◌≡◌, ℕ, suc, ◌+◌, ◌-◌, ◌<◌, ◌≤◌, cond, List, [], ◌∷◌, length, is_some, Some, None, Option, refl, ap, arith}
use Rattle.std.specs.List.{filter}
use Rattle.conventions.specs.Turns.{upward}
use Rattle.generation.specs.Payments.{Due}
use Rattle.generation.specs.Schedules.{Scheduled}
use Rattle.changes.specs.Changes.{Altered, altered_payment, alteration, listed_before, changes_at}

module _ (before after : ℕ → ℕ) (x y : Scheduled) where
  -- the changes from payment k on, below n
  abbrev pub from_payment : ℕ → ℕ → List Altered
  from_payment n k = changes_at before after x y (upward (n - k) k)

  -- payment k comes before the later ones, if it altered
  pub next_payment : (n k : ℕ) (o : Option (Due × Due)) → k < n → altered_payment x y k ≡ o
      → from_payment n k ≡ listed_before (alteration before after x.terms.number k) o (from_payment n (k + 1))
  unfolding changes_at upward
  next_payment n k o l e = let m : n - k ≡ suc (n - (k + 1)) = omega arith in rw (m, e)

  -- no payment is left
  pub last_payment : (n k : ℕ) → n ≤ k → from_payment n k ≡ []
  unfolding changes_at upward
  last_payment n k l = let m : n - k ≡ 0 = omega arith in rw m

  -- they are as many as the payments that altered
  pub as_many : (ks : List ℕ) → length (filter (λ k. is_some (altered_payment x y k)) ks) ≡ length (changes_at before after x y ks)
  unfolding changes_at
  as_many [] = refl
  as_many (k ∷ ks) = go (altered_payment x y k) (as_many ks)
    where
      go : (o : Option (Due × Due)) → length (filter (λ j. is_some (altered_payment x y j)) ks) ≡ length (changes_at before after x y ks)
          → length (cond (is_some o) (k ∷ filter (λ j. is_some (altered_payment x y j)) ks) (filter (λ j. is_some (altered_payment x y j)) ks))
          ≡ length (listed_before (alteration before after x.terms.number k) o (changes_at before after x y ks))
      go None e = e
      go (Some p) e = ap suc e

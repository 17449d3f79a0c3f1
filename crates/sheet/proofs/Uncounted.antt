-- Where no roll is counted, nothing is tried anew and no payment alters.
use Rattle.std.proofs.Common.{◌≡◌, ℕ, zero, suc, ◌+◌, ◌-◌, ◌<◌, Bool, true, false, cond, ◌&&◌, eqb, List, [], ◌∷◌, ◌++◌, length, get_or, Option, Some, None, Ok, Result, refl, ap, ◌∙◌, zero-add, arith}
use Rattle.std.proofs.lemmas.Bool.Decides.{nat_tests}
use Rattle.faults.specs.Refusals.{Refusal}
use Rattle.conventions.specs.Turns.{upward}
use Rattle.generation.specs.Rolls.{RollDays}
use Rattle.generation.specs.BondRolls.{bond_roll}
use Rattle.generation.specs.Granting.{followed, each_granted}
use Rattle.generation.specs.Schedules.{Scheduled, roll_in, scheduled}
use Rattle.generation.specs.Payments.{Due, payment_at}
use Rattle.generation.specs.Retrying.{counts, how_many, counted_in, retried_roll, retried}
use Rattle.generation.proofs.Retried.{same_answers}
use Rattle.changes.specs.Changes.{same_fixing, same_due, differing, altered_payment, alteration, listed_before, changes_at}
use Rattle.sheet.specs.Notices.{counted, changes}

-- none of n numbers from i on passes a test
none_passes : (test : ℕ → Bool) (n i k : ℕ) → how_many test (upward n i) ≡ 0 → k < n → test (i + k) ≡ false
unfolding how_many upward
none_passes test zero i k e l = absurd (omega arith)
none_passes test (suc n) i k e l = go (test i) refl k l e (none_passes test n (i + 1))
  where
    go : (b : Bool) → test i ≡ b → (j : ℕ) → j < suc n → cond b 1 0 + how_many test (upward n (i + 1)) ≡ 0
        → ((j : ℕ) → how_many test (upward n (i + 1)) ≡ 0 → j < n → test (i + 1 + j) ≡ false) → test (i + j) ≡ false
    go true h j m f more = absurd (omega (arith, f))
    go false h zero m f more = ap test (omega arith) ∙ h
    go false h (suc j) m f more = ap test (omega arith) ∙ more j (omega (arith, f)) (omega arith)

-- a list read place by place is that list
read_all : (xs : List RollDays) (i : ℕ) (ys : List RollDays) (d : RollDays) → ((k : ℕ) → k < length ys → get_or xs (i + k) d ≡ get_or ys k d)
    → each_granted {B = RollDays} (λ j. Ok (get_or xs j d)) (upward (length ys) i) ≡ Ok ys
unfolding each_granted upward
read_all xs i [] d h = refl
read_all xs i (y ∷ ys) d h =
    let here : get_or xs i d ≡ y = ap (λ (j : ℕ). get_or xs j d) (omega arith) ∙ h 0 (omega arith) in
    let more = read_all xs (i + 1) ys d (λ k l. ap (λ (j : ℕ). get_or xs j d) (omega arith) ∙ h (suc k) (omega arith)) in
    rw (here, more) refl

-- a schedule none of whose rolls counts
pub uncounted : (good : ℕ → Bool) (tries : ℕ → List ℕ) (days : List ℕ) (x : Scheduled) → counted_in tries days x ≡ 0 → retried good tries days x ≡ Ok x
uncounted good tries days x e =
    let left : (k : ℕ) → k < length x.days → retried_roll good tries days x (0 + k) ≡ Ok (roll_in x (0 + k)) =
    λ k l. rw (none_passes (counts tries days x) (length x.days) 0 k e l) refl in
    ap (scheduled x.terms) (same_answers (retried_roll good tries days x) (λ i. Ok (roll_in x i)) (length x.days) 0 left ∙ read_all x.days 0 x.days _ (λ k l. ap (λ (j : ℕ). roll_in x j) (zero-add k)))

-- nor of several
pub all_uncounted : (good : ℕ → Bool) (tries : ℕ → List ℕ) (days : List ℕ) (xs : List Scheduled) → counted tries days xs ≡ 0 → each_granted (retried good tries days) xs ≡ Ok xs
unfolding each_granted counted
all_uncounted good tries days [] e = refl
all_uncounted good tries days (x ∷ xs) e =
    rw (uncounted good tries days x (omega (arith, e)), all_uncounted good tries days xs (omega (arith, e))) refl

-- a payment is the same as itself
same_self : (p : Due) → same_due p p ≡ true
same_self p = go p.fixing
  where
    go : (f : Option ℕ) → (eqb p.date p.date && (same_fixing f f && (eqb p.days p.days && eqb p.amount p.amount))) ≡ true
    go None = grind (arith, nat_tests)
    go (Some d) = grind (arith, nat_tests)

-- so a schedule has no changes from itself to itself
none_at : (before after : ℕ → ℕ) (x : Scheduled) (ks : List ℕ) → changes_at before after x x ks ≡ []
unfolding changes_at altered_payment
none_at before after x [] = refl
none_at before after x (k ∷ ks) = go (payment_at x k) (none_at before after x ks)
  where
    go : (o : Option Due) → changes_at before after x x ks ≡ [] → listed_before (alteration before after x.terms.number k) (differing o o) (changes_at before after x x ks) ≡ []
    go None e = e
    go (Some p) e = rw (same_self p) e

pub no_changes : (before after : ℕ → ℕ) (xs : List Scheduled) → changes before after xs xs ≡ []
unfolding changes
no_changes before after [] = refl
no_changes before after (x ∷ xs) = rw (none_at before after x (upward (length x.days - 1) 1), no_changes before after xs) refl

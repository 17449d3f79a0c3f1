-- The list of a notice has exactly the payments that altered between two fresh sheets of the same bonds, once, in order.
use Rattle.std.proofs.Common.{◌≡◌, ℕ, suc, ◌≤◌, Bool, true, false, leb, List, [], ◌∷◌, ◌++◌, Some, None, Option, Ok, Result, sym, ap, ◌∙◌, inl, inr, ◌⊎◌, arith}
use Rattle.std.specs.List.{All, AllPairs}
use Rattle.std.proofs.lemmas.Bool.{cases_eq, eq-eqb, ne_eqb, and_parts, leb-true}
use Rattle.std.proofs.lemmas.List.Elements.{All-append}
use Rattle.tables.specs.Tables.{rising}
use Rattle.bonds.specs.declared.terms.Terms.{Terms}
use Rattle.generation.specs.Granting.{each_granted}
use Rattle.generation.specs.Payments.{Due, payment_at}
use Rattle.generation.specs.Schedules.{Scheduled, all_rolls, schedule_answer}
use Rattle.changes.specs.Changes.{Altered, same_due, changes_in}
use Rattle.changes.specs.ChangeLaws.{AlteredBetween, ListedExactly}
use Rattle.changes.proofs.Exactly.{listed_exactly}
use Rattle.sheet.specs.FreshSheets.{Fresh, number, good_days, schedules}
use Rattle.sheet.specs.Readings.{schedule_numbered, paid, payment_in, payment_among, payment_by, payment_answer}
use Rattle.sheet.specs.Notices.{changes}
use Rattle.sheet.specs.EveryUse.{Before, ReadsOtherwise, ListsExactly}
use Rattle.sheet.proofs.Answered.{both_granted}
use Rattle.sheet.proofs.EnteredBonds.{its_terms}
use Rattle.sheet.proofs.Joined.{Somewhere, on_left, on_right, pairs_joined}

-- a payment that was read is there
was_paid : (n : ℕ) (o : Option Due) (p : Due) → paid n o ≡ Ok p → o ≡ Some p
was_paid n None p e = absurd (grind arith)
was_paid n (Some q) p e = let f : q ≡ p = cc in ap Some f

-- the first schedule has the number
first_numbered : (n : ℕ) (x : Scheduled) (xs : List Scheduled) → number x.terms ≡ n → schedule_numbered n (x ∷ xs) ≡ Some x
unfolding schedule_numbered
first_numbered n x xs e = rw (eq-eqb (number x.terms) n e)

-- it has not
later_numbered : (n : ℕ) (x : Scheduled) (xs : List Scheduled) → (number x.terms ≡ n → ⊥) → schedule_numbered n (x ∷ xs) ≡ schedule_numbered n xs
unfolding schedule_numbered
later_numbered n x xs e = rw (ne_eqb (number x.terms) n e)

module _ (before after : ℕ → ℕ) where
  -- a change of a bond that has a schedule before and one after
  record Change (xs ys : List Scheduled) (c : Altered) : Type 0 where
    old : Scheduled
    new : Scheduled
    was : schedule_numbered c.bond xs ≡ Some old
    becomes : schedule_numbered c.bond ys ≡ Some new
    between : AlteredBetween before after old new c

  -- a change of payment k of bond n
  abbrev Of : ℕ → ℕ → Altered → Type 0
  Of n k c = (c.bond ≡ n) × (c.payment ≡ k)

  -- a list is exact for schedules of numbers from one on
  record Exact (from : ℕ) (xs ys : List Scheduled) (list : List Altered) : Type 0 where
    only : All (Change xs ys) list
    all : (n k : ℕ) (p q : Due) → payment_among xs n k ≡ Ok p → payment_among ys n k ≡ Ok q → same_due p q ≡ false → Somewhere (Of n k) list
    low : All (λ c. from ≤ c.bond) list
    in_order : AllPairs Before list

  -- with the changes of one more bond before those of higher numbers
  exact_more : (low : ℕ) (x y : Scheduled) (xs ys : List Scheduled) (rest : List Altered) → low ≤ number x.terms → number y.terms ≡ number x.terms
      → Exact (suc (number x.terms)) xs ys rest → Exact low (x ∷ xs) (y ∷ ys) (changes_in before after x y ++ rest)
  exact_more low x y xs ys rest up same r = record {
    only = All-append (Change (x ∷ xs) (y ∷ ys)) new rest (λ i d l. first _ (own.only i d l)) (λ i d l. later _ (r.low i d l) (r.only i d l));
    all = λ n k p q e f s. all n k p q e f s (cases_eq (number x.terms) n);
    low = All-append (λ c. low ≤ c.bond) new rest (λ i d l. omega (arith, (own.only i d l).bond)) (λ i d l. omega (arith, r.low i d l));
    in_order = pairs_joined Before new rest (λ i j d l m. inr ((own.only i d (omega arith)).bond ∙ sym (own.only j d m).bond, own.rising i j d l m)) r.in_order
        (λ i d l j e m. inl (omega (arith, (own.only i d l).bond, r.low j e m)));
  }
    where
      new : List Altered
      new = changes_in before after x y

      own : ListedExactly before after x y
      own = listed_exactly before after x y

      first : (c : Altered) → AlteredBetween before after x y c → Change (x ∷ xs) (y ∷ ys) c
      first c a = record {
        old = x;
        new = y;
        was = first_numbered c.bond x xs (sym a.bond);
        becomes = first_numbered c.bond y ys (same ∙ sym a.bond);
        between = a;
      }

      later : (c : Altered) → suc (number x.terms) ≤ c.bond → Change xs ys c → Change (x ∷ xs) (y ∷ ys) c
      later c l o = record {
        old = o.old;
        new = o.new;
        was = later_numbered c.bond x xs (λ e. absurd (omega arith)) ∙ o.was;
        becomes = later_numbered c.bond y ys (λ e. absurd (omega arith)) ∙ o.becomes;
        between = o.between;
      }

      all : (n k : ℕ) (p q : Due) → payment_among (x ∷ xs) n k ≡ Ok p → payment_among (y ∷ ys) n k ≡ Ok q → same_due p q ≡ false
          → (number x.terms ≡ n) ⊎ (number x.terms ≡ n → ⊥) → Somewhere (Of n k) (new ++ rest)
      all n k p q e f s (inl h) =
          let u = was_paid n (payment_at x k) p (ap (payment_in n k) (sym (first_numbered n x xs h)) ∙ e) in
          let v = was_paid n (payment_at y k) q (ap (payment_in n k) (sym (first_numbered n y ys (same ∙ h))) ∙ f) in
          let t = own.all k p q u v s in
          on_left (Of n k) new rest (t.0, t.1, λ d. ((own.only t.0 d t.1).bond ∙ h, t.2 d))
      all n k p q e f s (inr h) =
          on_right (Of n k) new rest
          (r.all n k p q (ap (payment_in n k) (sym (later_numbered n x xs h)) ∙ e)
          (ap (payment_in n k) (sym (later_numbered n y ys (λ g. h (sym same ∙ g)))) ∙ f) s)

  module _ (tries : ℕ → List ℕ) (good other : ℕ → Bool) where
    -- the changes of bonds that rise by number are exact
    abbrev Rises : List Terms → List Scheduled → List Scheduled → Type 0
    Rises ts xs ys = (low : ℕ) → rising number low ts ≡ true → Exact low xs ys (changes before after xs ys)

    -- those of no bonds
    none : Rises [] [] []
    unfolding changes schedule_numbered
    none low up = record {
      only = λ i d l. absurd (omega arith);
      all = λ n k p q e f s. absurd (grind arith);
      low = λ i d l. absurd (omega arith);
      in_order = λ i j d l m. absurd (omega arith);
    }

    -- those of one more bond
    more : (t : Terms) (x y : Scheduled) (ts : List Terms) (xs ys : List Scheduled)
        → schedule_answer good tries t ≡ Ok x → schedule_answer other tries t ≡ Ok y → Rises ts xs ys → Rises (t ∷ ts) (x ∷ xs) (y ∷ ys)
    unfolding changes
    more t x y ts xs ys a b r low up =
        let h = and_parts (leb low (number t)) (rising number (suc (number t)) ts) up in
        let e : number x.terms ≡ number t = ap number (its_terms t (all_rolls good tries t) x a) in
        let f : number y.terms ≡ number t = ap number (its_terms t (all_rolls other tries t) y b) in
        let l = leb-true low (number t) h.0 in
        exact_more low x y xs ys (changes before after xs ys) (omega arith) (f ∙ sym e) (r (suc (number x.terms)) (rw e h.1))

    -- those of all bonds
    exact : (ts : List Terms) (xs ys : List Scheduled)
        → each_granted (schedule_answer good tries) ts ≡ Ok xs → each_granted (schedule_answer other tries) ts ≡ Ok ys → Rises ts xs ys
    exact = both_granted (schedule_answer good tries) (schedule_answer other tries) Rises none more

module _ (tries : ℕ → List ℕ) (s t : Fresh) (xs ys : List Scheduled) (same : t.bonds ≡ s.bonds)
    (old : schedules tries s.calendar s.bonds ≡ Ok xs) (new : schedules tries t.calendar t.bonds ≡ Ok ys) (up : rising number 0 s.bonds ≡ true) where
  -- the list is exact for the two sheets
  pub lists_exactly : ListsExactly tries s t (changes s.calendar.codes t.calendar.codes xs ys)
  lists_exactly = record {
    only = λ i d l. reads _ (all.only i d l);
    all = λ n k p q e f u. all.all n k p q (sym (read xs s old n k) ∙ e) (sym (read ys t new n k) ∙ f) u;
    once_in_order = all.in_order;
  }
    where
      all : Exact s.calendar.codes t.calendar.codes 0 xs ys (changes s.calendar.codes t.calendar.codes xs ys)
      all =
          exact s.calendar.codes t.calendar.codes tries (good_days s.calendar) (good_days t.calendar) s.bonds xs ys old
          (ap (schedules tries t.calendar) (sym same) ∙ new) 0 up

      read : (zs : List Scheduled) (u : Fresh) → schedules tries u.calendar u.bonds ≡ Ok zs → (n k : ℕ) → payment_answer tries u n k ≡ payment_among zs n k
      read zs u e n k = ap (λ (r : Result (List Scheduled) _). payment_by r n k) e

      reads : (c : Altered) → Change s.calendar.codes t.calendar.codes xs ys c → ReadsOtherwise tries s t c
      reads c o = let a = o.between in record {
        was = read xs s old c.bond c.payment ∙ ap (payment_in c.bond c.payment) o.was ∙ ap (paid c.bond) a.was;
        becomes = read ys t new c.bond c.payment ∙ ap (payment_in c.bond c.payment) o.becomes ∙ ap (paid c.bond) a.becomes;
        differs = a.differs;
        closes_old = a.closes_old;
        closed_new = a.closed_new;
      }

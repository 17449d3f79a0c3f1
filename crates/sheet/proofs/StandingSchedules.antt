-- The schedules of a fresh sheet that stands, and a payment that is read from them.
use Rattle.std.proofs.Common.{◌≡◌, ℕ, Bool, true, false, cond, eqb, Option, List, [], ◌∷◌, Some, None, Ok, Err, Result, sym, refl, ap, ◌∙◌, arith}
use Rattle.faults.specs.Refusals.{Refusal}
use Rattle.bonds.specs.declared.terms.Terms.{Terms}
use Rattle.generation.specs.Granting.{followed, each_granted}
use Rattle.generation.specs.Payments.{Due, payment_at}
use Rattle.generation.specs.Schedules.{Scheduled, all_rolls, schedule_answer}
use Rattle.sheet.specs.FreshSheets.{Fresh, number, good_days, schedules}
use Rattle.sheet.specs.KeptBonds.{bonds_of}
use Rattle.sheet.specs.Readings.{schedule_numbered, paid, payment_in, payment_among, payment_by, payment_answer}
use Rattle.sheet.proofs.EnteredBonds.{its_terms}
use Rattle.sheet.proofs.Soundness.{EachFresh, to_each}
use Rattle.sheet.proofs.FreshStanding.{Standing}

module _ (f : Terms → Result Scheduled Refusal) where
  -- schedules of all bonds have these bonds, if each has its own
  pub their_bonds : ((t : Terms) (x : Scheduled) → f t ≡ Ok x → x.terms ≡ t) → (ts : List Terms) (xs : List Scheduled) → each_granted f ts ≡ Ok xs
      → bonds_of xs ≡ ts
  unfolding each_granted
  their_bonds own [] xs e = let z : xs ≡ [] = cc in ap bonds_of z
  their_bonds own (t ∷ ts) xs e = go (their_bonds own ts) (f t) refl (each_granted f ts) refl e
    where
      go : ((ys : List Scheduled) → each_granted f ts ≡ Ok ys → bonds_of ys ≡ ts) → (r : Result Scheduled Refusal) → f t ≡ r
          → (rs : Result (List Scheduled) Refusal) → each_granted f ts ≡ rs → followed r rs ≡ Ok xs → bonds_of xs ≡ t ∷ ts
      go more (Err u) p rs q s = absurd (grind arith)
      go more (Ok y) p (Err u) q s = absurd (grind arith)
      go more (Ok y) p (Ok ys) q s =
          let z : xs ≡ y ∷ ys = cc in
          let a = own t y p in
          let b = more ys q in
          ap bonds_of z ∙ (λ i. a i ∷ b i)

  -- one that is found by its number is one of them
  pub found_fresh : (n : ℕ) (xs : List Scheduled) (x : Scheduled) → EachFresh f (λ y. y.terms) xs → schedule_numbered n xs ≡ Some x → f x.terms ≡ Ok x
  unfolding schedule_numbered
  found_fresh n [] x h e = absurd (grind arith)
  found_fresh n (y ∷ ys) x h e = go (found_fresh n ys x h.1) (eqb (number y.terms) n) e
    where
      go : (schedule_numbered n ys ≡ Some x → f x.terms ≡ Ok x) → (b : Bool) → cond b (Some y) (schedule_numbered n ys) ≡ Some x → f x.terms ≡ Ok x
      go more true q = let z : y ≡ x = cc in ap (λ (w : Scheduled). f w.terms) (sym z) ∙ h.0 ∙ ap Ok z
      go more false q = more q

-- the schedule of a number, and its payment that is read
pub record ReadFrom (xs : List Scheduled) (n k : ℕ) (p : Due) : Type 0 where
  pub schedule : Scheduled
  pub found : schedule_numbered n xs ≡ Some schedule
  pub read : payment_at schedule k ≡ Some p

-- a payment that is read has such a schedule
pub read_from : (xs : List Scheduled) (n k : ℕ) (p : Due) → payment_among xs n k ≡ Ok p → ReadFrom xs n k p
read_from xs n k p e = go (schedule_numbered n xs) refl e
  where
    at : (x : Scheduled) → schedule_numbered n xs ≡ Some x → (o : Option Due) → payment_at x k ≡ o → paid n o ≡ Ok p → ReadFrom xs n k p
    at x f None g q = absurd (grind arith)
    at x f (Some u) g q = let z : u ≡ p = cc in record { schedule = x; found = f; read = g ∙ ap Some z }

    go : (o : Option Scheduled) → schedule_numbered n xs ≡ o → payment_in n k o ≡ Ok p → ReadFrom xs n k p
    go None f q = absurd (grind arith)
    go (Some x) f q = at x f (payment_at x k) refl q

module _ (tries : ℕ → List ℕ) (s : Fresh) where
  -- what generation answers for a bond
  abbrev pub afresh : Terms → Result Scheduled Refusal
  afresh t = schedule_answer (good_days s.calendar) tries t

  -- A sheet that stands.
  module _ (h : Standing tries s) where
    -- its schedules are those of its bonds
    pub all_bonds : bonds_of h.all ≡ s.bonds
    all_bonds = their_bonds afresh (λ t x e. its_terms t (all_rolls (good_days s.calendar) tries t) x e) s.bonds h.all h.granted

    -- each of them is what generation gives
    pub all_fresh : EachFresh afresh (λ (x : Scheduled). x.terms) h.all
    all_fresh = to_each afresh (λ (x : Scheduled). x.terms) h.all (ap (schedules tries s.calendar) all_bonds ∙ h.granted)

    -- a payment is read from them
    pub among_all : (n k : ℕ) → payment_answer tries s n k ≡ payment_among h.all n k
    among_all n k = ap (λ (r : Result (List Scheduled) Refusal). payment_by r n k) h.granted

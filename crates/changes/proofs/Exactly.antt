-- The list of changes holds each payment that altered, once, in order, and nothing else.
use Rattle.std.proofs.Common.{◌≡◌, ℕ, zero, suc, ◌+◌, ◌-◌, ◌<◌, ◌≤◌, false, ◌⊎◌, List, [], ◌∷◌, length, get_or, Some, None, Option, sym, refl, ap, ◌∙◌, inl, inr, arith}
use Rattle.std.proofs.lemmas.Bool.{cases_eq}
use Rattle.conventions.specs.Turns.{upward}
use Rattle.generation.specs.Payments.{Due}
use Rattle.generation.specs.Schedules.{Scheduled}
use Rattle.changes.specs.Changes.{altered_payment, Altered, alteration, listed_before, changes_at}
use Rattle.changes.specs.ChangeLaws.{AlteredBetween, ListedExactly}
use Rattle.changes.proofs.Differing.{both_have}
use Rattle.changes.proofs.Reading.{stands, pair_of}

module _ (before after : ℕ → ℕ) (x y : Scheduled) where
  -- an entry has payment k
  abbrev Has : List Altered → ℕ → Type 0
  Has list k = (i : ℕ) × (i < length list) × ((d : Altered) → (get_or list i d).payment ≡ k)

  -- a list is exact for n payments from number s on
  record Exact (n s : ℕ) (list : List Altered) : Type 0 where
    only : (i : ℕ) (d : Altered) → i < length list → AlteredBetween before after x y (get_or list i d)
    all : (k : ℕ) (p : Due × Due) → s ≤ k → k < s + n → Some p ≡ altered_payment x y k → Has list k
    low : (i : ℕ) (d : Altered) → i < length list → s ≤ (get_or list i d).payment
    rising : (i j : ℕ) (d : Altered) → i < j → j < length list → (get_or list i d).payment < (get_or list j d).payment

  -- for no payments
  exact_none : (s : ℕ) → Exact 0 s []
  exact_none s = record {
    only = λ i d l. absurd (omega arith);
    all = λ k p l m e. absurd (omega arith);
    low = λ i d l. absurd (omega arith);
    rising = λ i j d l m. absurd (omega arith);
  }

  -- payment s did not alter
  exact_skip : (n s : ℕ) (rest : List Altered) → None ≡ altered_payment x y s → Exact n (s + 1) rest → Exact (suc n) s rest
  exact_skip n s rest e r = record {
    only = r.only;
    all = λ k p l m f. r.all k p (below k (cases_eq k s) l f) (omega arith) f;
    low = λ i d l. omega (arith, r.low i d l);
    rising = r.rising;
  }
    where
      below : {p : Due × Due} (k : ℕ) → (k ≡ s) ⊎ (k ≡ s → ⊥) → s ≤ k → Some p ≡ altered_payment x y k → s + 1 ≤ k
      below k (inl h) l f = let g = f ∙ ap (altered_payment x y) h in absurd (grind arith)
      below k (inr h) l f = omega arith

  -- the change of payment s before others
  abbrev one_more : ℕ → Due × Due → List Altered → List Altered
  one_more s p rest = alteration before after x.terms.number s p ∷ rest

  -- payment s altered
  exact_one : (n s : ℕ) (p : Due × Due) (rest : List Altered) → Some p ≡ altered_payment x y s → Exact n (s + 1) rest
      → Exact (suc n) s (one_more s p rest)
  exact_one n s p rest e r = record { only = only; all = λ k q l m f. all k q l m f (cases_eq k s); low = low; rising = rising }
    where
      only : (i : ℕ) (d : Altered) → i < suc (length rest) → AlteredBetween before after x y (get_or (one_more s p rest) i d)
      only zero d l = let h = pair_of x y s p e in record { was = h.was; becomes = h.becomes; differs = h.differs; bond = refl; closes_old = refl; closed_new = refl }
      only (suc i) d l = r.only i d (omega arith)

      all : (k : ℕ) (q : Due × Due) → s ≤ k → k < s + suc n → Some q ≡ altered_payment x y k → (k ≡ s) ⊎ (k ≡ s → ⊥) → Has (one_more s p rest) k
      all k q l m f (inl h) = (0, omega arith, λ d. sym h)
      all k q l m f (inr h) = let t = r.all k q (omega arith) (omega arith) f in (suc t.0, omega (arith, t.1), t.2)

      low : (i : ℕ) (d : Altered) → i < suc (length rest) → s ≤ (get_or (one_more s p rest) i d).payment
      low zero d l = omega arith
      low (suc i) d l = omega (arith, r.low i d (omega arith))

      rising : (i j : ℕ) (d : Altered) → i < j → j < suc (length rest)
          → (get_or (one_more s p rest) i d).payment < (get_or (one_more s p rest) j d).payment
      rising i zero d l m = absurd (omega arith)
      rising zero (suc j) d l m = omega (arith, r.low j d (omega arith))
      rising (suc i) (suc j) d l m = r.rising i j d (omega arith) (omega arith)

  -- the changes of n payments from s on are exact
  exact : (n s : ℕ) → Exact n s (changes_at before after x y (upward n s))
  unfolding changes_at upward
  exact zero s = exact_none s
  exact (suc n) s = go (altered_payment x y s) refl (exact n (s + 1))
    where
      go : (o : Option (Due × Due)) → o ≡ altered_payment x y s → Exact n (s + 1) (changes_at before after x y (upward n (s + 1)))
          → Exact (suc n) s (listed_before (alteration before after x.terms.number s) o (changes_at before after x y (upward n (s + 1))))
      go None e r = exact_skip n s _ e r
      go (Some p) e r = exact_one n s p _ e r

  -- so are those of a bond
  pub listed_exactly : ListedExactly before after x y
  listed_exactly =
      let r = exact (length x.days - 1) 1 in
      record {
        only = r.only;
        all = λ k p q e f s. (let t = stands x k p e in r.all k (p, q) t.from_one (omega (arith, t.inside, t.from_one)) (both_have x y k p q false (sym e) (sym f) (sym s)));
        rising = r.rising;
      }

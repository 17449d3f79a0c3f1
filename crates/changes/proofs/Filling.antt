-- The changes of a bond written into a list, payment by payment.
use Rattle.std.proofs.Common.{◌≡◌, ℕ, ◌+◌, ◌<◌, ◌≤◌, List, ◌∷◌, map, length, set, Some, None, Option, sym, ap, ◌∙◌, subst, arith}
use Rattle.std.proofs.lemmas.List.{length-map, map-set}
use Rattle.generation.specs.Payments.{Due}
use Rattle.generation.specs.Schedules.{Scheduled}
use Rattle.changes.specs.declared.change.Change.{Change}
use Rattle.changes.specs.Changes.{Altered, altered_payment, alteration, changes_in, seen_change, seen_place, written, written_count}
use Rattle.changes.proofs.Listings.{from_payment, next_payment, last_payment}
use Rattle.changes.proofs.Writings.{Written, one_fits, write_one, when_fits}

module _ (before after : ℕ → ℕ) (x y : Scheduled) (places : List (Option Change)) where
  -- the bond's changes, as places hold them
  abbrev whole : List (Option Altered)
  whole = map Some (changes_in before after x y)

  -- those of the payments from k on
  abbrev left : ℕ → List (Option Altered)
  left k = map Some (from_payment before after x y (length x.days) k)

  -- the changes of the payments below k stand in the first n places
  abbrev pub Filled : ℕ → List (Option Change) → ℕ → Type 0
  Filled k list n = Written whole (left k) (map seen_place places) (map seen_place list) n

  -- how a list answers when it has room
  abbrev pub Answered : List (Option Change) → ℕ → Type 0
  Answered list n = (Some n ≡ written_count whole (map seen_place places)) × (map seen_place list ≡ written whole (map seen_place places))

  -- A payment k of the bond.
  module _ (k : ℕ) (list : List (Option Change)) (n : ℕ) (inside : k < length x.days) (so_far : Filled k list n) where
    -- the payments from k on, if payment k altered
    one_listed : (p : Due × Due) → Some p ≡ altered_payment x y k → left k ≡ Some (alteration before after x.terms.number k p) ∷ left (k + 1)
    one_listed p e = ap (map Some) (next_payment before after x y (length x.days) k (Some p) inside (sym e))

    -- it has a place
    pub fill_fits : (p : Due × Due) → Some p ≡ altered_payment x y k → n < length list
    fill_fits p e =
        let l = length-map list seen_place in
        let f = one_fits whole (map seen_place places) _ _ (map seen_place list) n _ (one_listed p e) so_far in
        omega arith

    -- it altered, and is written
    pub fill_one : (p : Due × Due) (bond : ℕ) (change : Change) (new : List (Option Change)) (m : ℕ) → Some p ≡ altered_payment x y k
        → bond ≡ x.terms.number → seen_change change ≡ alteration before after bond k p → new ≡ set list n (Some change) → m ≡ n + 1 → Filled (k + 1) new m
    fill_one p bond change new m e b a s t =
        let d = a ∙ ap (λ (z : ℕ). alteration before after z k p) b in
        rw t (write_one whole (map seen_place places) _ _ (map seen_place list) (map seen_place new) n _ (one_listed p e)
        (ap (map seen_place) s ∙ map-set seen_place list n (Some change) ∙ ap (λ (z : Altered). set (map seen_place list) n (Some z)) d)
        so_far)

    -- it did not
    pub fill_none : (new : List (Option Change)) (m : ℕ) → None ≡ altered_payment x y k → new ≡ list → m ≡ n → Filled (k + 1) new m
    fill_none new m e s t =
        rw (s, t) (subst (λ (rest : List Altered). Written whole (map Some rest) (map seen_place places) (map seen_place list) n)
        (next_payment before after x y (length x.days) k None inside (sym e)) so_far)

  -- all payments are done
  pub fill_end : (k : ℕ) (list : List (Option Change)) (n : ℕ) → length (changes_in before after x y) ≤ length places
      → length x.days ≤ k → Filled k list n → Answered list n
  fill_end k list n h l so_far =
      let g = length-map places seen_place in
      let f = length-map {B = Option Altered} (changes_in before after x y) Some in
      let e = last_payment before after x y (length x.days) k l in
      let w =
      when_fits whole (map seen_place places) (map seen_place list) n (omega arith)
      (subst (λ (rest : List Altered). Written whole (map Some rest) (map seen_place places) (map seen_place list) n) e so_far) in
      (w.1, w.0)

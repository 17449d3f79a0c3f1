-- A payment moved because a layer closes its old date after the notice, or closed its new date before it.
use Rattle.std.proofs.Common.{◌≡◌, ℕ, ◌<◌, ◌≢◌, Bool, true, false, cond, List, [], ◌∷◌, length, get_or, Some, Ok, sym, refl, ap, ◌∙◌, inl, inr, ◌⊎◌, arith}
use Rattle.std.specs.List.{All}
use Rattle.std.proofs.lemmas.Bool.{both_ways, cases_eq, eq-eqb, lt-ltb}
use Rattle.std.proofs.lemmas.List.Elements.{All-append}
use Rattle.conventions.specs.Tries.{first_good}
use Rattle.amendments.specs.Meanings.{Meaning}
use Rattle.bonds.specs.declared.terms.Terms.{Terms}
use Rattle.bonds.specs.Rolls.{rolls}
use Rattle.generation.specs.BondRolls.{generated}
use Rattle.generation.specs.Payments.{Due, payment_at}
use Rattle.generation.specs.Schedules.{Scheduled, roll_in, schedule_answer}
use Rattle.generation.proofs.FirstFault.{first_fault}
use Rattle.generation.proofs.Ordering.{granted}
use Rattle.changes.specs.Changes.{Altered, changes_in}
use Rattle.changes.specs.ChangeLaws.{AlteredBetween}
use Rattle.changes.proofs.Exactly.{listed_exactly}
use Rattle.changes.proofs.Reading.{stands}
use Rattle.sheet.specs.FreshSheets.{Fresh, good_days, schedules}
use Rattle.sheet.specs.Notices.{changes}
use Rattle.sheet.specs.EveryUse.{NamesLayer}
use Rattle.sheet.proofs.Answered.{both_granted}

-- the first good days of two sets are one day, if each is good in the other set
same_first : (one other : ℕ → Bool) (ds : List ℕ) (a b : ℕ) → first_good one ds ≡ Some a → first_good other ds ≡ Some b
    → other a ≡ true → one b ≡ true → a ≡ b
unfolding first_good
same_first one other [] a b e f g h = absurd (grind arith)
same_first one other (d ∷ ds) a b e f g h = go (one d) refl (other d) refl e f (same_first one other ds a b)
  where
    go : (u : Bool) → one d ≡ u → (v : Bool) → other d ≡ v
        → cond u (Some d) (first_good one ds) ≡ Some a → cond v (Some d) (first_good other ds) ≡ Some b
        → (first_good one ds ≡ Some a → first_good other ds ≡ Some b → other a ≡ true → one b ≡ true → a ≡ b) → a ≡ b
    go true p true q i j more = cc
    go true p false q i j more = let k : a ≡ d = cc in absurd (both_ways (other d) q (ap other (sym k) ∙ g))
    go false p true q i j more = let k : b ≡ d = cc in absurd (both_ways (one d) p (ap one (sym k) ∙ h))
    go false p false q i j more = more i j g h

-- a payment falls due on the first good day tried
due_first : (one : ℕ → Bool) (tries : ℕ → List ℕ) (t : Terms) (x : Scheduled) (k : ℕ) (p : Due)
    → schedule_answer one tries t ≡ Ok x → payment_at x k ≡ Some p → first_good one (tries (get_or (rolls t) k 0)) ≡ Some p.date
due_first one tries t x k p m e =
    let s = stands x k p e in
    let g = (first_fault one tries t).granted x m in
    let l : k < length (rolls t) = omega (arith, s.inside, g.0) in
    let r : generated one tries t k ≡ Some (Ok (roll_in x k)) = rw (lt-ltb k (length (rolls t)) l) (ap Some (g.1 k _ l)) in
    (granted one tries t k (roll_in x k) r).first ∙ ap Some s.due

module _ (tries : ℕ → List ℕ) (before after : Meaning) where
  module _ (t : Terms) (x y : Scheduled)
      (was : schedule_answer (good_days before) tries t ≡ Ok x) (becomes : schedule_answer (good_days after) tries t ≡ Ok y) where
    -- a change of a bond names a layer
    names : (c : Altered) → AlteredBetween before.codes after.codes x y c → NamesLayer c
    names c a moved = go (cases_eq c.closes_old 0) (cases_eq c.closed_new 0)
      where
        go : (c.closes_old ≡ 0) ⊎ (c.closes_old ≢ 0) → (c.closed_new ≡ 0) ⊎ (c.closed_new ≢ 0) → (c.closes_old ≢ 0) ⊎ (c.closed_new ≢ 0)
        go (inr e) f = inl e
        go (inl e) (inr f) = inr f
        go (inl e) (inl f) =
            absurd (moved (same_first (good_days before) (good_days after) (tries (get_or (rolls t) c.payment 0)) c.old.date c.new.date
            (due_first (good_days before) tries t x c.payment c.old was a.was) (due_first (good_days after) tries t y c.payment c.new becomes a.becomes)
            (eq-eqb (after.codes c.old.date) 0 (sym a.closes_old ∙ e)) (eq-eqb (before.codes c.new.date) 0 (sym a.closed_new ∙ f))))

  -- each change of some bonds does
  abbrev Named : List Terms → List Scheduled → List Scheduled → Type 0
  Named ts xs ys = All NamesLayer (changes before.codes after.codes xs ys)

  -- for no bonds
  none : Named [] [] []
  unfolding changes
  none i d l = absurd (omega arith)

  -- for one bond more
  more : (t : Terms) (x y : Scheduled) (ts : List Terms) (xs ys : List Scheduled)
      → schedule_answer (good_days before) tries t ≡ Ok x → schedule_answer (good_days after) tries t ≡ Ok y → Named ts xs ys → Named (t ∷ ts) (x ∷ xs) (y ∷ ys)
  unfolding changes
  more t x y ts xs ys a b r =
      All-append NamesLayer (changes_in before.codes after.codes x y) (changes before.codes after.codes xs ys)
      (λ i d l. names t x y a b _ ((listed_exactly before.codes after.codes x y).only i d l)) r

module _ (tries : ℕ → List ℕ) (s t : Fresh) (xs ys : List Scheduled) (same : t.bonds ≡ s.bonds)
    (old : schedules tries s.calendar s.bonds ≡ Ok xs) (new : schedules tries t.calendar t.bonds ≡ Ok ys) where
  -- each change of all bonds names a layer
  pub layers_named : (i : ℕ) (d : Altered) → i < length (changes s.calendar.codes t.calendar.codes xs ys)
      → NamesLayer (get_or (changes s.calendar.codes t.calendar.codes xs ys) i d)
  layers_named =
      let before = s.calendar in
      let after = t.calendar in
      both_granted (schedule_answer (good_days before) tries) (schedule_answer (good_days after) tries)
      (Named tries before after) (none tries before after) (more tries before after) s.bonds xs ys old (ap (schedules tries t.calendar) (sym same) ∙ new)

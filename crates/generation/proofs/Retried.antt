-- A roll that does not stand on a changed day stays as it is, so trying the others anew is enough.
use Rattle.std.proofs.Common.{◌≡◌, ℕ, zero, suc, ◌+◌, ◌<◌, Bool, true, false, cond, ◌||◌, List, [], ◌∷◌, map, length, get_or, Ok, Result, sym, refl, ap, ◌∙◌, zero-add, arith}
use Rattle.std.proofs.lemmas.Bool.Decides.{nat_tests}
use Rattle.std.specs.List.{list_any, filter}
use Rattle.faults.specs.Refusals.{Refusal, refuse}
use Rattle.calendars.specs.Rules.{any}
use Rattle.conventions.specs.Tries.{served}
use Rattle.conventions.specs.Turns.{upward}
use Rattle.bonds.specs.Rolls.{rolls, lag_of}
use Rattle.generation.specs.Rolls.{RollDays, Span, footing, roll_of, roll_answer, Holds}
use Rattle.generation.specs.BondRolls.{bond_roll}
use Rattle.generation.specs.Granting.{followed, each_granted}
use Rattle.generation.specs.Schedules.{Scheduled, roll_in, scheduled, all_rolls, schedule_answer}
use Rattle.generation.specs.Retrying.{holds_one, counts, how_many, retried_roll, retried, among, SameButFor, RetrySuffices}
use Rattle.generation.proofs.Granted.{all_were_granted}
use Rattle.generation.proofs.FirstFault.{its_rolls}
use Rattle.generation.proofs.Standing.{footing_holds}

-- a test of each member of a list that was mapped
pub any_map : {A B : Type 0} (f : A → B) (test : B → Bool) (xs : List A) → list_any (λ x. test (f x)) xs ≡ any test (map f xs)
any_map f test [] = refl
any_map f test (x ∷ xs) = ap (λ (b : Bool). test (f x) || b) (any_map f test xs)

-- a span that holds none of the days holds only other days
none_inside : (span : Span) (days : List ℕ) (d : ℕ) → holds_one span days ≡ false → Holds span d → among d days ≡ false
none_inside span [] d h k = refl
none_inside span (x ∷ xs) d h k = let more = none_inside span xs d in grind (arith, nat_tests, k.0, k.1)

-- the same answers in order come to the same
pub same_answers : {A : Type 0} (f g : ℕ → Result A Refusal) (n i : ℕ) → ((k : ℕ) → k < n → f (i + k) ≡ g (i + k)) → each_granted f (upward n i) ≡ each_granted g (upward n i)
unfolding each_granted upward
same_answers f g zero i h = refl
same_answers f g (suc n) i h =
    let here : f i ≡ g i = ap f (omega arith) ∙ h 0 (omega arith) ∙ ap g (omega arith) in
    let more = same_answers f g n (i + 1) (λ k l. ap f (omega arith) ∙ h (suc k) (omega arith) ∙ ap g (omega arith)) in
    λ j. followed (here j) (more j)

module _ (good other : ℕ → Bool) (tries : ℕ → List ℕ) (days : List ℕ) (same : SameButFor days good other) where
  -- a roll whose footing holds none of the days
  pub roll_stays : (u lag : ℕ) (names : List ℕ) (r : RollDays) → holds_one (footing u (tries u) r) days ≡ false → roll_answer good tries u lag names ≡ Ok r
      → roll_answer other tries u lag names ≡ Ok r
  roll_stays u lag names r none e = go (served u) e
    where
      go : (b : Bool) → cond b (roll_of good (tries u) lag names) (refuse 45 []) ≡ Ok r → cond b (roll_of other (tries u) lag names) (refuse 45 []) ≡ Ok r
      go true s = footing_holds good other u (tries u) lag names r s (λ d h. same d (none_inside (footing u (tries u) r) days d none h))
      go false s = absurd (grind arith)

  -- so a roll that does not count
  stays : (x : Scheduled) (i : ℕ) → counts tries days x i ≡ false → bond_roll good tries x.terms i ≡ Ok (roll_in x i)
      → bond_roll other tries x.terms i ≡ Ok (roll_in x i)
  unfolding counts
  stays x i c e = roll_stays (get_or (rolls x.terms) i 0) (lag_of x.terms i) (x.terms.number ∷ i ∷ get_or (rolls x.terms) i 0 ∷ []) (roll_in x i) c e

  -- tried anew or left, it is the roll that is generated afresh
  anew : (x : Scheduled) (i : ℕ) → bond_roll good tries x.terms i ≡ Ok (roll_in x i) → retried_roll other tries days x i ≡ bond_roll other tries x.terms i
  anew x i e = go (counts tries days x i) refl
    where
      go : (b : Bool) → counts tries days x i ≡ b → cond b (bond_roll other tries x.terms i) (Ok (roll_in x i)) ≡ bond_roll other tries x.terms i
      go true c = refl
      go false c = sym (stays x i c e)

  pub retry_is_afresh : (x : Scheduled) → schedule_answer good tries x.terms ≡ Ok x → retried other tries days x ≡ schedule_answer other tries x.terms
  retry_is_afresh x e =
      let t = x.terms in
      let r = all_were_granted (bond_roll good tries t) (length (rolls t)) 0 x.days (its_rolls good tries t x (all_rolls good tries t) e) in
      let each : (k : ℕ) → k < length x.days → retried_roll other tries days x (0 + k) ≡ bond_roll other tries t (0 + k) =
      λ k l. anew x (0 + k) (r.each k _ (omega (arith, r.many)) ∙ ap (λ (j : ℕ). Ok (roll_in x j)) (sym (zero-add k))) in
      ap (scheduled t) (same_answers (retried_roll other tries days x) (bond_roll other tries t) (length x.days) 0 each
      ∙ ap (λ (n : ℕ). each_granted (bond_roll other tries t) (upward n 0)) r.many)

pub retry_suffices : (good : ℕ → Bool) (tries : ℕ → List ℕ) (days : List ℕ) (x : Scheduled) → RetrySuffices good tries days x
retry_suffices good tries days x before same e = retry_is_afresh before good tries days same x e

-- those that pass a test are as many as pass it
pub how_many_pass : (test : ℕ → Bool) (ns : List ℕ) → length (filter test ns) ≡ how_many test ns
unfolding how_many
how_many_pass test [] = refl
how_many_pass test (n ∷ ns) = go (test n) (how_many_pass test ns)
  where
    go : (b : Bool) → length (filter test ns) ≡ how_many test ns → length (cond b (n ∷ filter test ns) (filter test ns)) ≡ cond b 1 0 + how_many test ns
    go true e = omega (arith, e)
    go false e = omega (arith, e)

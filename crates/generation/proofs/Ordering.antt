-- The adjusted days of a bond never go backward.
use Rattle.std.proofs.Common.{◌≡◌, ℕ, ◌<◌, ◌≤◌, Bool, true, false, cond, eqb, ltb, List, [], ◌∷◌, length, get_or, Some, None, Ok, Option, refl, ap, arith}
use Rattle.std.proofs.lemmas.Bool.Decides.{nat_tests}
use Rattle.std.proofs.lemmas.Bool.{ltb-true}
use Rattle.faults.specs.Refusals.{refuse}
use Rattle.conventions.specs.Tries.{Served, served, first_good}
use Rattle.dates.proofs.Rows.{rises}
use Rattle.bonds.specs.declared.terms.Terms.{Terms}
use Rattle.bonds.specs.Rolls.{rolls, lag_of}
use Rattle.bonds.proofs.Rolling.{rising}
use Rattle.generation.specs.Rolls.{RollDays, fixing, fixed_roll, adjusted_roll, roll_of, roll_answer}
use Rattle.generation.specs.BondRolls.{generated, NeverBackward}

-- a roll that was generated has the first good day tried as its adjusted day
found : (good : ℕ → Bool) (names : List ℕ) (lag : ℕ) (o : Option ℕ) (a : RollDays) → adjusted_roll good names lag o ≡ Ok a → o ≡ Some a.adjusted
found good names lag None a e = absurd (grind arith)
found good names lag (Some day) a e = go (eqb lag 0) e
  where
    fix : (f : Option ℕ) → fixed_roll names day f ≡ Ok a → Some day ≡ Some a.adjusted
    fix None s = absurd (grind arith)
    fix (Some f) s = let p : record { adjusted = day; fixing = Some f } ≡ a = cc in ap (λ (x : RollDays). Some x.adjusted) p

    go : (b : Bool) → cond b (Ok (record { adjusted = day; fixing = None })) (fixed_roll names day (fixing good day lag)) ≡ Ok a → Some day ≡ Some a.adjusted
    go true s = let p : record { adjusted = day; fixing = None } ≡ a = cc in ap (λ (x : RollDays). Some x.adjusted) p
    go false s = fix (fixing good day lag) s

pub record Granted (good : ℕ → Bool) (tries : ℕ → List ℕ) (t : Terms) (i : ℕ) (a : RollDays) : Type 0 where
  pub place : i < length (rolls t)
  pub serves : Served (get_or (rolls t) i 0)
  pub first : first_good good (tries (get_or (rolls t) i 0)) ≡ Some a.adjusted

pub granted : (good : ℕ → Bool) (tries : ℕ → List ℕ) (t : Terms) (i : ℕ) (a : RollDays) → generated good tries t i ≡ Some (Ok a) → Granted good tries t i a
granted good tries t i a e = go (ltb i (length (rolls t))) refl e
  where
    u : ℕ
    u = get_or (rolls t) i 0

    names : List ℕ
    names = t.number ∷ i ∷ get_or (rolls t) i 0 ∷ []

    day : i < length (rolls t) → (b : Bool) → served (get_or (rolls t) i 0) ≡ b
        → cond b (roll_of good (tries (get_or (rolls t) i 0)) (lag_of t i) (t.number ∷ i ∷ get_or (rolls t) i 0 ∷ [])) (refuse 45 []) ≡ Ok a → Granted good tries t i a
    day p true s f = record {
      place = p;
      serves = (grind (arith, nat_tests), grind (arith, nat_tests));
      first = found good (t.number ∷ i ∷ get_or (rolls t) i 0 ∷ []) (lag_of t i) (first_good good (tries (get_or (rolls t) i 0))) a f;
    }
    day p false s f = absurd (grind arith)

    go : (b : Bool) → ltb i (length (rolls t)) ≡ b
        → cond b (Some (roll_answer good tries (get_or (rolls t) i 0) (lag_of t i) (t.number ∷ i ∷ get_or (rolls t) i 0 ∷ []))) None ≡ Some (Ok a) → Granted good tries t i a
    go true l s = let f : roll_answer good tries (get_or (rolls t) i 0) (lag_of t i) (t.number ∷ i ∷ get_or (rolls t) i 0 ∷ []) ≡ Ok a = cc in
        day (ltb-true i (length (rolls t)) l) (served (get_or (rolls t) i 0)) refl f
    go false l s = absurd (grind arith)

-- a later roll is not an earlier day
later_roll : (t : Terms) (i j : ℕ) → i ≤ j → j < length (rolls t) → get_or (rolls t) i 0 ≤ get_or (rolls t) j 0
later_roll t i j h k =
    rises (λ n. get_or (rolls t) n 0) j (λ n l. (let r = rising t n (omega arith) in omega arith)) i j h (omega arith)

pub never_backward : (good : ℕ → Bool) (tries : ℕ → List ℕ) (t : Terms)
    → ((u v a b : ℕ) → Served u → Served v → u ≤ v → first_good good (tries u) ≡ Some a → first_good good (tries v) ≡ Some b → a ≤ b)
    → NeverBackward good tries t
never_backward good tries t order i j a b h e f =
    let p = granted good tries t i a e in
    let q = granted good tries t j b f in
    order (get_or (rolls t) i 0) (get_or (rolls t) j 0) a.adjusted b.adjusted p.serves q.serves (later_roll t i j h q.place) p.first q.first

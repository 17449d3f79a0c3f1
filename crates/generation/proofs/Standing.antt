-- A roll depends on the days of its footing alone.
use Rattle.std.proofs.Common.{◌≡◌, ℕ, zero, suc, ◌-◌, ◌≤◌, min, max, Bool, true, false, cond, eqb, List, [], ◌∷◌, Some, None, Ok, Option, Result, sym, refl, ap, ◌∙◌, subst, arith}
use Rattle.std.proofs.lemmas.Bool.{both_ways, ne_eqb}
use Rattle.faults.specs.Refusals.{Refusal}
use Rattle.conventions.specs.Tries.{first_good}
use Rattle.generation.specs.Rolls.{RollDays, nth_back, fixing, fixed_roll, adjusted_roll, roll_of, up_to, lowest, highest, footing}
use Rattle.generation.specs.Laws.{FootingHolds}

pub lowest_below : (u : ℕ) (ds : List ℕ) → lowest u ds ≤ u
unfolding lowest
lowest_below u [] = omega arith
lowest_below u (d ∷ ds) = omega (arith, lowest_below (min u d) ds)

pub highest_above : (u : ℕ) (ds : List ℕ) → u ≤ highest u ds
unfolding highest
highest_above u [] = omega arith
highest_above u (d ∷ ds) = omega (arith, highest_above (max u d) ds)

pub is_good : (good : ℕ → Bool) (ds : List ℕ) (a : ℕ) → first_good good ds ≡ Some a → good a ≡ true
unfolding first_good
is_good good [] a e = absurd (grind arith)
is_good good (d ∷ ds) a e = go (good d) refl e (is_good good ds a)
  where
    go : (b : Bool) → good d ≡ b → cond b (Some d) (first_good good ds) ≡ Some a → (first_good good ds ≡ Some a → good a ≡ true) → good a ≡ true
    go true g q f = let s : d ≡ a = cc in ap good (sym s) ∙ g
    go false g q f = f q

-- two sets of good days agree from one day to another
abbrev Agree : (ℕ → Bool) → (ℕ → Bool) → ℕ → ℕ → Type 0
Agree good other low high = (d : ℕ) → low ≤ d → d ≤ high → good d ≡ other d

-- the head of the days tried up to a, and the rest where a stands later
up_to_later : (a d : ℕ) (ds : List ℕ) → eqb d a ≡ false → up_to a (d ∷ ds) ≡ d ∷ up_to a ds
unfolding up_to
up_to_later a d ds e = rw e

low_head : (u a d : ℕ) (ds : List ℕ) → lowest u (up_to a (d ∷ ds)) ≤ d
unfolding up_to lowest
low_head u a d ds = omega (arith, lowest_below (min u d) (cond (eqb d a) [] (up_to a ds)))

high_head : (u a d : ℕ) (ds : List ℕ) → d ≤ highest u (up_to a (d ∷ ds))
unfolding up_to highest
high_head u a d ds = omega (arith, highest_above (max u d) (cond (eqb d a) [] (up_to a ds)))

lowest_more : (u d : ℕ) (ds : List ℕ) → lowest u (d ∷ ds) ≡ lowest (min u d) ds
unfolding lowest
lowest_more u d ds = refl

highest_more : (u d : ℕ) (ds : List ℕ) → highest u (d ∷ ds) ≡ highest (max u d) ds
unfolding highest
highest_more u d ds = refl

-- the same day is found
pub same_found : (good other : ℕ → Bool) (u v : ℕ) (ds : List ℕ) (a : ℕ) → first_good good ds ≡ Some a
    → Agree good other (lowest u (up_to a ds)) (highest v (up_to a ds)) → first_good other ds ≡ Some a
unfolding first_good
same_found good other u v [] a e h = absurd (grind arith)
same_found good other u v (d ∷ ds) a e h = go (good d) refl e (same_found good other (min u d) (max v d) ds a)
  where
    here : good d ≡ other d
    here = h d (low_head u a d ds) (high_head v a d ds)

    go : (b : Bool) → good d ≡ b → cond b (Some d) (first_good good ds) ≡ Some a
        → (first_good good ds ≡ Some a → Agree good other (lowest (min u d) (up_to a ds)) (highest (max v d) (up_to a ds)) → first_good other ds ≡ Some a)
        → cond (other d) (Some d) (first_good other ds) ≡ Some a
    go true g q f = rw (sym here ∙ g) q
    go false g q f =
        let n : eqb d a ≡ false = ne_eqb d a (λ s. both_ways (good d) g (ap good s ∙ is_good good ds a q)) in
        let l : lowest u (up_to a (d ∷ ds)) ≡ lowest (min u d) (up_to a ds) = ap (lowest u) (up_to_later a d ds n) ∙ lowest_more u d (up_to a ds) in
        let m : highest v (up_to a (d ∷ ds)) ≡ highest (max v d) (up_to a ds) = ap (highest v) (up_to_later a d ds n) ∙ highest_more v d (up_to a ds) in
        rw (sym here ∙ g) (f q (λ x p r. h x (omega arith) (omega arith)))

-- it is not above the highest
pub below_highest : (good : ℕ → Bool) (v : ℕ) (ds : List ℕ) (a : ℕ) → first_good good ds ≡ Some a → a ≤ highest v (up_to a ds)
unfolding first_good
below_highest good v [] a e = absurd (grind arith)
below_highest good v (d ∷ ds) a e = go (good d) refl e (below_highest good (max v d) ds a)
  where
    go : (b : Bool) → good d ≡ b → cond b (Some d) (first_good good ds) ≡ Some a
        → (first_good good ds ≡ Some a → a ≤ highest (max v d) (up_to a ds)) → a ≤ highest v (up_to a (d ∷ ds))
    go true g q f = let s : d ≡ a = cc in omega (arith, high_head v a d ds)
    go false g q f =
        let n : eqb d a ≡ false = ne_eqb d a (λ s. both_ways (good d) g (ap good s ∙ is_good good ds a q)) in
        let m : highest v (up_to a (d ∷ ds)) ≡ highest (max v d) (up_to a ds) = ap (highest v) (up_to_later a d ds n) ∙ highest_more v d (up_to a ds) in
        omega (arith, f q)

-- the fixing is before the day, and the same if the days from it on agree
pub fixed_below : (good : ℕ → Bool) (w day n f : ℕ) → nth_back good w day n ≡ Some f → f ≤ day - 1
unfolding nth_back
fixed_below good zero day n f e = absurd (grind arith)
fixed_below good (suc w) day n f e = go (good (day - 1)) (eqb n 1) e (fixed_below good w (day - 1) (n - 1) f) (fixed_below good w (day - 1) n f)
  where
    go : (b c : Bool) → cond b (cond c (Some (day - 1)) (nth_back good w (day - 1) (n - 1))) (nth_back good w (day - 1) n) ≡ Some f
        → (nth_back good w (day - 1) (n - 1) ≡ Some f → f ≤ day - 1 - 1) → (nth_back good w (day - 1) n ≡ Some f → f ≤ day - 1 - 1) → f ≤ day - 1
    go true true e p q = let s : day - 1 ≡ f = cc in omega arith
    go true false e p q = omega (arith, p e)
    go false c e p q = omega (arith, q e)

pub same_fixing : (good other : ℕ → Bool) (w day n f : ℕ) → nth_back good w day n ≡ Some f → Agree good other f day → nth_back other w day n ≡ Some f
unfolding nth_back
same_fixing good other zero day n f e h = absurd (grind arith)
same_fixing good other (suc w) day n f e h =
    let l = fixed_below good (suc w) day n f e in
    let h2 : Agree good other f (day - 1) = λ d p q. h d p (omega arith) in
    rw (sym (h (day - 1) (omega arith) (omega arith)))
    (go (good (day - 1)) (eqb n 1) e (λ q. same_fixing good other w (day - 1) (n - 1) f q h2) (λ q. same_fixing good other w (day - 1) n f q h2))
  where
    go : (b c : Bool) → cond b (cond c (Some (day - 1)) (nth_back good w (day - 1) (n - 1))) (nth_back good w (day - 1) n) ≡ Some f
        → (nth_back good w (day - 1) (n - 1) ≡ Some f → nth_back other w (day - 1) (n - 1) ≡ Some f)
        → (nth_back good w (day - 1) n ≡ Some f → nth_back other w (day - 1) n ≡ Some f)
        → cond b (cond c (Some (day - 1)) (nth_back other w (day - 1) (n - 1))) (nth_back other w (day - 1) n) ≡ Some f
    go true true e p q = e
    go true false e p q = p e
    go false c e p q = q e

abbrev AgreeOn : (ℕ → Bool) → (ℕ → Bool) → ℕ → List ℕ → RollDays → Type 0
AgreeOn good other u ds r = Agree good other (footing u ds r).low (footing u ds r).high

plain : (good other : ℕ → Bool) (u : ℕ) (ds : List ℕ) (lag : ℕ) (names : List ℕ) (a : ℕ) → first_good good ds ≡ Some a → eqb lag 0 ≡ true
    → AgreeOn good other u ds (record { adjusted = a; fixing = None }) → roll_of other ds lag names ≡ Ok (record { adjusted = a; fixing = None })
plain good other u ds lag names a fa b h = rw (same_found good other u u ds a fa h, b)

fixed : (good other : ℕ → Bool) (u : ℕ) (ds : List ℕ) (lag : ℕ) (names : List ℕ) (a f : ℕ) → first_good good ds ≡ Some a → eqb lag 0 ≡ false
    → fixing good a lag ≡ Some f → AgreeOn good other u ds (record { adjusted = a; fixing = Some f })
    → roll_of other ds lag names ≡ Ok (record { adjusted = a; fixing = Some f })
fixed good other u ds lag names a f fa b q h =
    let m = below_highest good u ds a fa in
    rw (same_found good other u u ds a fa (λ d x y. h d (omega arith) y), b, same_fixing good other 60 a lag f q (λ d x y. h d (omega arith) (omega arith)))

pub footing_holds : FootingHolds
footing_holds good other u ds lag names r e same = go (first_good good ds) refl e
  where
    h : AgreeOn good other u ds r
    h d l m = same d (l, m)

    at : (x : RollDays) → ◌≡◌ {A = Result RollDays Refusal} (Ok x) (Ok r) → AgreeOn good other u ds x
    at x s = let p : r ≡ x = cc in subst (λ (y : RollDays). AgreeOn good other u ds y) p h

    last : (a : ℕ) → first_good good ds ≡ Some a → eqb lag 0 ≡ false → (o : Option ℕ) → fixing good a lag ≡ o → fixed_roll names a o ≡ Ok r → roll_of other ds lag names ≡ Ok r
    last a fa b None q s = absurd (grind arith)
    last a fa b (Some f) q s = fixed good other u ds lag names a f fa b q (at _ s) ∙ s

    day : (a : ℕ) → first_good good ds ≡ Some a → (b : Bool) → eqb lag 0 ≡ b
        → cond b (Ok (record { adjusted = a; fixing = None })) (fixed_roll names a (fixing good a lag)) ≡ Ok r → roll_of other ds lag names ≡ Ok r
    day a fa true b s = plain good other u ds lag names a fa b (at _ s) ∙ s
    day a fa false b s = last a fa b (fixing good a lag) refl s

    go : (o : Option ℕ) → first_good good ds ≡ o → adjusted_roll good names lag o ≡ Ok r → roll_of other ds lag names ≡ Ok r
    go None fa s = absurd (grind arith)
    go (Some a) fa s = day a fa (eqb lag 0) refl s

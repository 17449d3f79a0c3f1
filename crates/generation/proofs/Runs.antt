-- The days tried up to a day are a run without gaps.
use Rattle.std.proofs.Common.{◌≡◌, ℕ, suc, ◌+◌, ◌-◌, ◌<◌, ◌≤◌, min, max, Bool, true, false, cond, eqb, List, [], ◌∷◌, length, take, sym, refl, ap, subst, arith}
use Rattle.conventions.specs.Tries.{Served, Among, Run}
use Rattle.generation.specs.Rolls.{up_to, lowest, highest, span, Holds}
use Rattle.generation.specs.Laws.{RunWasTried}

-- the days tried up to a day are the first of the list
pub up_to_front : (a : ℕ) (ds : List ℕ) → up_to a ds ≡ take (length (up_to a ds)) ds
unfolding up_to
up_to_front a [] = refl
up_to_front a (d ∷ ds) = ap (λ (xs : List ℕ). d ∷ xs) (go (eqb d a) (up_to_front a ds))
  where
    go : (b : Bool) → up_to a ds ≡ take (length (up_to a ds)) ds → cond b [] (up_to a ds) ≡ take (length (cond b [] (up_to a ds))) ds
    go true f = refl
    go false f = f

-- they begin with the first
up_to_first : (u a : ℕ) (ds : List ℕ) → take 1 ds ≡ u ∷ [] → Among u (up_to a ds)
unfolding up_to
up_to_first u a [] e = absurd (grind arith)
up_to_first u a (d ∷ ds) e = let f : d ≡ u = cc in (0, omega arith, f)

-- a bound of all days is one of the lowest and of the highest
pub above_all : (b u : ℕ) (ds : List ℕ) → b ≤ u → ((d : ℕ) → Among d ds → b ≤ d) → b ≤ lowest u ds
unfolding lowest
above_all b u [] h g = h
above_all b u (d ∷ ds) h g =
    above_all b (min u d) ds (omega (arith, g d (0, omega arith, refl))) (λ x m. g x (suc m.0, omega (arith, m.1), m.2))

pub below_all : (b u : ℕ) (ds : List ℕ) → u ≤ b → ((d : ℕ) → Among d ds → d ≤ b) → highest u ds ≤ b
unfolding highest
below_all b u [] h g = h
below_all b u (d ∷ ds) h g =
    below_all b (max u d) ds (omega (arith, g d (0, omega arith, refl))) (λ x m. g x (suc m.0, omega (arith, m.1), m.2))

-- in a run that has u, each day from the lowest to the highest
inside : (u d : ℕ) (ds : List ℕ) → Run ds → Among u ds → Holds (span u u ds) d → Among d ds
inside u d ds r m h =
    let k = r.only u m in
    let low = above_all r.low u ds k.0 (λ x y. (r.only x y).0) in
    let n : 0 < length ds = omega (arith, m.1) in
    let high : highest u ds < r.low + length ds =
    (let q = below_all (r.low + length ds - 1) u ds (omega arith) (λ x y. omega (arith, (r.only x y).1)) in omega arith) in
    r.whole d (omega (arith, h.0)) (omega (arith, h.1))

pub run_was_tried : (tries : ℕ → List ℕ) → ((u : ℕ) → Served u → take 1 (tries u) ≡ u ∷ []) → ((u n : ℕ) → Served u → Run (take n (tries u)))
    → RunWasTried tries
run_was_tried tries first run u a d s h =
    inside u d (up_to a (tries u)) (subst (λ (xs : List ℕ). Run xs) (sym (up_to_front a (tries u))) (run u (length (up_to a (tries u))) s))
    (up_to_first u a (tries u) (first u s)) h

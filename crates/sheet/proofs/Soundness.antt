-- What is kept stays what generation gives, as schedules come and go.
use Rattle.std.proofs.Common.{◌≡◌, ℕ, Bool, true, false, cond, eqb, ltb, List, [], ◌∷◌, map, Ok, Err, Result, refl, ap, ◌∙◌, arith}
use Rattle.faults.specs.Refusals.{Refusal}
use Rattle.tables.specs.Tables.{with_record, without}
use Rattle.generation.specs.Granting.{followed, each_granted}

module _ {A B : Type 0} (f : A → Result B Refusal) (source : B → A) where
  -- each member is what f answers of its source
  abbrev pub EachFresh : List B → Type 0
  EachFresh [] = Unit {0}
  EachFresh (x ∷ xs) = (f (source x) ≡ Ok x) × EachFresh xs

  -- one by one is the same as all at once
  pub from_each : (xs : List B) → EachFresh xs → each_granted f (map source xs) ≡ Ok xs
  unfolding each_granted
  from_each [] e = refl
  from_each (x ∷ xs) e = rw (e.0, from_each xs e.1) refl

  pub to_each : (xs : List B) → each_granted f (map source xs) ≡ Ok xs → EachFresh xs
  unfolding each_granted
  to_each [] e = tt
  to_each (x ∷ xs) e = go (to_each xs) (f (source x)) refl (each_granted f (map source xs)) refl e
    where
      go : (each_granted f (map source xs) ≡ Ok xs → EachFresh xs) → (r : Result B Refusal) → f (source x) ≡ r
          → (rs : Result (List B) Refusal) → each_granted f (map source xs) ≡ rs → followed r rs ≡ Ok (x ∷ xs) → (f (source x) ≡ Ok x) × EachFresh xs
      go more (Err u) p rs q s = let z : ◌≡◌ {A = ℕ} 0 1 = cc in absurd (let w : ⊥ = omega arith in w)
      go more (Ok y) p (Err u) q s = let z : ◌≡◌ {A = ℕ} 0 1 = cc in absurd (let w : ⊥ = omega arith in w)
      go more (Ok y) p (Ok ys) q s =
          let a : y ≡ x = cc in
          let b : ys ≡ xs = cc in
          (p ∙ ap Ok a, more (q ∙ ap Ok b))

  each_either : (t : Bool) (xs ys : List B) → EachFresh xs → EachFresh ys → EachFresh (cond t xs ys)
  each_either true xs ys a b = a
  each_either false xs ys a b = b

  -- one more keeps it
  pub each_with : (key : B → ℕ) (x : B) (xs : List B) → f (source x) ≡ Ok x → EachFresh xs → EachFresh (with_record key x xs)
  each_with key x [] e h = (e, tt)
  each_with key x (y ∷ ys) e h =
      each_either (ltb (key y) (key x)) (y ∷ with_record key x ys) (cond (eqb (key y) (key x)) (x ∷ ys) (x ∷ y ∷ ys))
      (h.0, each_with key x ys e h.1)
      (each_either (eqb (key y) (key x)) (x ∷ ys) (x ∷ y ∷ ys) (e, h.1) (e, h))

  -- one less too
  pub each_without : (key : B → ℕ) (k : ℕ) (xs : List B) → EachFresh xs → EachFresh (without key k xs)
  each_without key k [] h = tt
  each_without key k (y ∷ ys) h =
      each_either (ltb (key y) k) (y ∷ without key k ys) (cond (eqb (key y) k) ys (y ∷ ys))
      (h.0, each_without key k ys h.1)
      (each_either (eqb (key y) k) ys (y ∷ ys) h.1 h)

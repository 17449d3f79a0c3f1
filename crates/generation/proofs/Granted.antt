-- Answers one after another.
use Rattle.std.proofs.Common.{◌≡◌, ℕ, zero, suc, ◌+◌, ◌-◌, ◌<◌, ◌≤◌, true, List, [], ◌∷◌, ◌++◌, length, get_or, is_ok, Ok, Err, Result, sym, refl, ap, ◌∙◌, append_assoc, append-nil, arith}
use Rattle.faults.specs.Refusals.{Refusal}
use Rattle.conventions.specs.Turns.{upward}
use Rattle.generation.specs.Granting.{followed, each_granted}

-- what was granted before the rest
abbrev pub prefixed : {A : Type 0} → List A → Result (List A) Refusal → Result (List A) Refusal
prefixed done (Err e) = Err e
prefixed done (Ok rest) = Ok (done ++ rest)

prefixed_more : {A : Type 0} (done : List A) (a : A) (rest : Result (List A) Refusal)
    → prefixed done (followed (Ok a) rest) ≡ prefixed (done ++ (a ∷ [])) rest
prefixed_more done a (Err e) = refl
prefixed_more done a (Ok rest) = ap Ok (sym (append_assoc done (a ∷ []) rest))

-- nothing is done yet
pub prefixed_none : {A : Type 0} (r : Result (List A) Refusal) → prefixed [] r ≡ r
prefixed_none (Err u) = refl
prefixed_none (Ok rest) = refl

pub prefixed_start : {A : Type 0} (f : ℕ → Result A Refusal) (n m : ℕ) → n ≡ m
    → prefixed [] (each_granted f (upward (n - 0) 0)) ≡ each_granted f (upward m 0)
prefixed_start f n m e =
    prefixed_none (each_granted f (upward (n - 0) 0)) ∙ ap (λ (k : ℕ). each_granted f (upward k 0)) (let s : n - 0 ≡ m = omega arith in s)

-- the first of those that are left is granted
pub granted_one : {A B : Type 0} (f : A → Result B Refusal) (done : List B) (x : A) (xs : List A) (b : B) → f x ≡ Ok b
    → prefixed done (each_granted f (x ∷ xs)) ≡ prefixed (done ++ (b ∷ [])) (each_granted f xs)
unfolding each_granted
granted_one f done x xs b e = ap (λ (r : Result _ Refusal). prefixed done (followed r (each_granted f xs))) e ∙ prefixed_more done b (each_granted f xs)

-- it is refused
pub refused_one : {A B : Type 0} (f : A → Result B Refusal) (done : List B) (x : A) (xs : List A) (e : Refusal) → f x ≡ Err e
    → prefixed done (each_granted f (x ∷ xs)) ≡ Err e
unfolding each_granted
refused_one f done x xs e r = ap (λ (y : Result _ Refusal). prefixed done (followed y (each_granted f xs))) r

-- none is left
pub granted_none : {A B : Type 0} (f : A → Result B Refusal) (done : List B) → prefixed done (each_granted f []) ≡ Ok (done ++ [])
unfolding each_granted
granted_none f done = refl

-- A loop over the numbers below n: what it knows after the first i.
module _ {A : Type 0} (f : ℕ → Result A Refusal) (n i : ℕ) (done : List A) (whole : Result (List A) Refusal)
    (so_far : prefixed done (each_granted f (upward (n - i) i)) ≡ whole) where
  next : i < n → upward (n - i) i ≡ i ∷ upward (n - (i + 1)) (i + 1)
  unfolding upward
  next l = let e : n - i ≡ suc (n - (i + 1)) = omega arith in rw e

  -- the next is granted
  pub granted_more : (a : A) → i < n → f i ≡ Ok a → prefixed (done ++ (a ∷ [])) (each_granted f (upward (n - (i + 1)) (i + 1))) ≡ whole
  granted_more a l e =
      sym (granted_one f done i (upward (n - (i + 1)) (i + 1)) a e) ∙ ap (λ (ns : List ℕ). prefixed done (each_granted f ns)) (sym (next l)) ∙ so_far

  -- it is refused
  pub refused_here : (e : Refusal) → i < n → f i ≡ Err e → Err e ≡ whole
  refused_here e l r =
      sym (refused_one f done i (upward (n - (i + 1)) (i + 1)) e r) ∙ ap (λ (ns : List ℕ). prefixed done (each_granted f ns)) (sym (next l)) ∙ so_far

  -- there is none left
  pub granted_all : n ≤ i → Ok done ≡ whole
  unfolding each_granted upward
  granted_all l = let e : n - i ≡ 0 = omega arith in (let s = rw e at so_far in ap Ok (sym (append-nil done)) ∙ s)

-- n answers from number i on, each of them granted
pub record Each {A : Type 0} (f : ℕ → Result A Refusal) (i n : ℕ) (all : List A) : Type 0 where
  pub many : length all ≡ n
  pub each : (k : ℕ) (d : A) → k < n → f (i + k) ≡ Ok (get_or all k d)

-- one of them refused, and none before it
pub record First {A : Type 0} (f : ℕ → Result A Refusal) (i n : ℕ) (e : Refusal) : Type 0 where
  pub place : ℕ
  pub inside : place < n
  pub here : f (i + place) ≡ Err e
  pub before : (j : ℕ) → j < place → is_ok (f (i + j)) ≡ true

module _ {A : Type 0} (f : ℕ → Result A Refusal) where
  -- one more before those from i + 1 on
  each_more : (i n : ℕ) (a : A) (rest : List A) → f i ≡ Ok a → Each f (i + 1) n rest → Each f i (suc n) (a ∷ rest)
  each_more i n a rest e r = record { many = omega (arith, r.many); each = at }
    where
      at : (k : ℕ) (d : A) → k < suc n → f (i + k) ≡ Ok (get_or (a ∷ rest) k d)
      at zero d l = ap f (omega arith) ∙ e
      at (suc k) d l = ap f (omega arith) ∙ r.each k d (omega arith)

  first_more : (i n : ℕ) (a : A) (e : Refusal) → f i ≡ Ok a → First f (i + 1) n e → First f i (suc n) e
  first_more i n a e g r = record {
    place = suc r.place;
    inside = omega (arith, r.inside);
    here = ap f (omega arith) ∙ r.here;
    before = at;
  }
    where
      at : (j : ℕ) → j < suc r.place → is_ok (f (i + j)) ≡ true
      at zero l = ap (λ (m : ℕ). is_ok (f m)) (omega arith) ∙ ap is_ok g
      at (suc j) l = ap (λ (m : ℕ). is_ok (f m)) (omega arith) ∙ r.before j (omega arith)

  pub all_were_granted : (n i : ℕ) (ys : List A) → each_granted f (upward n i) ≡ Ok ys → Each f i n ys
  unfolding each_granted upward
  all_were_granted zero i ys e = let z : ys ≡ [] = cc in rw z (record { many = refl; each = λ k d l. absurd (omega arith) })
  all_were_granted (suc n) i ys e = go (all_were_granted n (i + 1)) (f i) refl (each_granted f (upward n (i + 1))) refl e
    where
      go : ((zs : List A) → each_granted f (upward n (i + 1)) ≡ Ok zs → Each f (i + 1) n zs)
          → (x : Result A Refusal) → f i ≡ x → (r : Result (List A) Refusal) → each_granted f (upward n (i + 1)) ≡ r → followed x r ≡ Ok ys → Each f i (suc n) ys
      go more (Err u) p r q s = absurd (grind arith)
      go more (Ok a) p (Err u) q s = absurd (grind arith)
      go more (Ok a) p (Ok rest) q s = let z : ys ≡ a ∷ rest = cc in rw z (each_more i n a rest p (more rest q))

  pub first_was_refused : (n i : ℕ) (e : Refusal) → each_granted f (upward n i) ≡ Err e → First f i n e
  unfolding each_granted upward
  first_was_refused zero i e s = absurd (grind arith)
  first_was_refused (suc n) i e s = go (first_was_refused n (i + 1)) (f i) refl (each_granted f (upward n (i + 1))) refl s
    where
      go : ((u : Refusal) → each_granted f (upward n (i + 1)) ≡ Err u → First f (i + 1) n u)
          → (x : Result A Refusal) → f i ≡ x → (r : Result (List A) Refusal) → each_granted f (upward n (i + 1)) ≡ r → followed x r ≡ Err e → First f i (suc n) e
      go more (Err u) p r q t = let z : u ≡ e = cc in record { place = 0; inside = omega arith; here = ap f (omega arith) ∙ p ∙ ap Err z; before = λ j l. absurd (omega arith) }
      go more (Ok a) p (Err u) q t = let z : u ≡ e = cc in first_more i n a e p (more e (q ∙ ap Err z))
      go more (Ok a) p (Ok rest) q t = absurd (grind arith)

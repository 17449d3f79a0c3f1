-- The search over the days tried.
use Rattle.std.proofs.Common.{◌≡◌, ℕ, ◌+◌, ◌<◌, ◌≤◌, Bool, true, false, leb, List, ◌∷◌, length, get_or, drop, Some, None, Ok, sym, ap, ◌∙◌, inl, inr, add-one, arith, drop_of_length-le, drop-cons}
use Rattle.std.proofs.lemmas.Bool.{and_parts, leb-true, cases_Bool}
use Rattle.std.proofs.lemmas.Bool.Decides.{nat_tests}
use Rattle.conventions.specs.Tries.{Served, served, first_good, Among, count_answer, nth_answer}
use Rattle.conventions.specs.FirstGood.{first_good_answer}

pub in_range : (u : ℕ) → served u ≡ true → Served u
in_range u e = let p = and_parts (leb 365 u) (leb u 109207) e in (leb-true 365 u p.0, leb-true u 109207 p.1)

next : (xs : List ℕ) (k : ℕ) → k < length xs → drop k xs ≡ get_or xs k 0 ∷ drop (k + 1) xs
next xs k h = rw (add-one, drop-cons xs k 0)

-- no day of the first k is good: the rest of the list gives the same day
abbrev pub Passed : (ℕ → Bool) → List ℕ → ℕ → Type 0
Passed good ds k = first_good good (drop k ds) ≡ first_good good ds

-- a good day ends the search, any other leaves it to the next, and past the last there is none
stops : (good : ℕ → Bool) (ds : List ℕ) (k : ℕ) → k < length ds → good (get_or ds k 0) ≡ true → first_good good (drop k ds) ≡ Some (get_or ds k 0)
unfolding first_good
stops good ds k h g = rw (next ds k h, g)

goes_on : (good : ℕ → Bool) (ds : List ℕ) (k : ℕ) → k < length ds → good (get_or ds k 0) ≡ false → first_good good (drop k ds) ≡ first_good good (drop (k + 1) ds)
unfolding first_good
goes_on good ds k h g = rw (next ds k h, g)

runs_out : (good : ℕ → Bool) (ds : List ℕ) (k : ℕ) → length ds ≤ k → first_good good (drop k ds) ≡ None
unfolding first_good
runs_out good ds k h = rw (drop_of_length-le ds h)

-- a day tried stands at its place of the list
pub record Tried (tries : ℕ → List ℕ) (u k d : ℕ) : Type 0 where
  pub serves : served u ≡ true
  pub within : k < length (tries u)
  pub here : get_or (tries u) k 0 ≡ d

pub tried : (tries : ℕ → List ℕ) (u k d : ℕ) → Ok d ≡ nth_answer tries u k → Tried tries u k d
tried tries u k d e = record { serves = grind (arith, nat_tests); within = grind (arith, nat_tests); here = grind (arith, nat_tests) }

-- it is not far from u
pub not_far : (tries : ℕ → List ℕ) (reach u k d : ℕ) → reach ≤ 30
    → (Served u → Among d (tries u) → (u ≤ d + reach) × (d ≤ u + reach)) → Ok d ≡ nth_answer tries u k → (335 ≤ d) × (d ≤ 109237)
not_far tries reach u k d h near e =
    let t = tried tries u k d e in let s = in_range u t.serves in let n = near s (k, t.within, t.here) in omega arith

-- what the search returns at a good day, how it goes on past another, and what it returns at the end
pub found_here : (good : ℕ → Bool) (tries : ℕ → List ℕ) (u k d : ℕ) → Ok d ≡ nth_answer tries u k → Passed good (tries u) k → good d ≡ true
    → Ok (Some d) ≡ first_good_answer good tries u
found_here good tries u k d e inv g =
    let t = tried tries u k d e in
    rw t.serves (ap Ok (ap Some (sym t.here) ∙ sym (stops good (tries u) k t.within (ap good t.here ∙ g)) ∙ inv))

pub found_later : (good : ℕ → Bool) (tries : ℕ → List ℕ) (u k d : ℕ) → Ok d ≡ nth_answer tries u k → Passed good (tries u) k → good d ≡ false
    → Passed good (tries u) (k + 1)
found_later good tries u k d e inv g =
    let t = tried tries u k d e in sym (goes_on good (tries u) k t.within (ap good t.here ∙ g)) ∙ inv

pub found_none : (good : ℕ → Bool) (tries : ℕ → List ℕ) (u k n : ℕ) → Ok n ≡ count_answer tries u → n ≤ k → Passed good (tries u) k
    → Ok None ≡ first_good_answer good tries u
found_none good tries u k n e h inv =
    elim (cases_Bool (served u)) [
      | inl t ↦ (let l : n ≡ length (tries u) = grind (arith, nat_tests) in rw t (ap Ok (sym (runs_out good (tries u) k (omega arith)) ∙ inv)))
      | inr t ↦ grind (arith, nat_tests)
    ]

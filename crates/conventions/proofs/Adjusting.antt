-- Adjusted days stand in the order of the unadjusted ones.
use Rattle.std.proofs.Common.{◌≡◌, ℕ, ◌≤◌, Bool, List, Some, None, Ok, Option, sym, ap, inl, inr, arith}
use Rattle.std.proofs.lemmas.Bool.{cases_Bool}
use Rattle.std.specs.Option.{option_map, ok_or}
use Rattle.faults.specs.declared.origins.GenerationFault.{GenerationFault}
use Rattle.conventions.specs.declared.adjusted.Adjusted.{Adjusted}
use Rattle.conventions.specs.Tries.{Served, served, first_good}
use Rattle.conventions.specs.FirstGood.{first_good_answer, found_or_refused, adjust_answer}
use Rattle.conventions.proofs.Scanning.{in_range}

-- a day that was found is the answer, and an answer was found
pub answered : (good : ℕ → Bool) (tries : ℕ → List ℕ) (u a : ℕ) → Ok (Some a) ≡ first_good_answer good tries u → Ok a ≡ adjust_answer good tries u
answered good tries u a e =
    elim (cases_Bool (served u)) [
      | inl t ↦ (let f = rw t at e in let o : first_good good (tries u) ≡ Some a = cc in rw (t, o))
      | inr t ↦ (let f = rw t at e in let z : ◌≡◌ {A = ℕ} 0 1 = cc in absurd (let w : ⊥ = omega arith in w))
    ]

some : (u a : ℕ) (o : Option ℕ) → found_or_refused u o ≡ Ok a → o ≡ Some a
some u a (Some d) e = cc
some u a None e = cc

found : (good : ℕ → Bool) (tries : ℕ → List ℕ) (u a : ℕ) → adjust_answer good tries u ≡ Ok a → Served u × (first_good good (tries u) ≡ Some a)
found good tries u a e =
    elim (cases_Bool (served u)) [
      | inl t ↦ (in_range u t, some u a (first_good good (tries u)) (rw t at e))
      | inr t ↦ (let f = rw t at e in let z : ◌≡◌ {A = ℕ} 0 1 = cc in absurd (let w : ⊥ = omega arith in w))
    ]

-- what a convention owes of its order, and what its adjusted days owe
abbrev pub Ordered : (ℕ → Bool) → (ℕ → List ℕ) → Type 0
Ordered good tries =
    (u v a b : ℕ) → Served u → Served v → u ≤ v → first_good good (tries u) ≡ Some a → first_good good (tries v) ≡ Some b → a ≤ b

pub adjusted_order : (good : ℕ → Bool) (tries : ℕ → List ℕ) → Ordered good tries
    → (u : ℕ) (o : Option Adjusted) (fault : GenerationFault) → Ok (option_map (λ (x : Adjusted). x.number) o) ≡ first_good_answer good tries u
    → (a : Adjusted) (v b : ℕ) → ok_or o fault ≡ Ok a → u ≤ v → adjust_answer good tries v ≡ Ok b → a.number ≤ b
adjusted_order good tries law u (Some x) fault e a v b s h q =
    let same : x ≡ a = cc in
    let i = found good tries u x.number (sym (answered good tries u x.number e)) in
    let j = found good tries v b q in
    let r = law u v x.number b i.0 j.0 h i.1 j.1 in rw (ap (λ (y : Adjusted). y.number) (sym same)) r
adjusted_order good tries law u None fault e a v b s h q = cc

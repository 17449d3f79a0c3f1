-- Which bonds may stand beside the live ones.
use Rattle.std.proofs.Common.{◌≡◌, ℕ, ◌<◌, Bool, true, false, cond, leb, List, [], ◌∷◌, length, Ok, Err, Result, sym, refl, ap, ◌∙◌, arith}
use Rattle.std.proofs.lemmas.Bool.Decides.{nat_tests}
use Rattle.faults.specs.Refusals.{Refusal, refuse}
use Rattle.tables.specs.Tables.{has}
use Rattle.bonds.specs.declared.terms.Terms.{Terms}
use Rattle.bonds.specs.Rolls.{rolls, rolls_answer}
use Rattle.sheet.specs.FreshSheets.{number}
use Rattle.sheet.specs.Entries.{has_room, admitted}

-- Terms whose number is k.
module _ (bonds : List Terms) (t : Terms) (k : ℕ) (named : k ≡ number t) where
  -- the number is live
  pub is_live : has number k bonds ≡ true → refuse 3 (k ∷ []) ≡ admitted bonds t
  unfolding admitted
  is_live h = let l : has number (number t) bonds ≡ true = ap (λ (n : ℕ). has number n bonds) (sym named) ∙ h in rw (named, l)

  module _ (absent : has number k bonds ≡ false) where
    new : has number (number t) bonds ≡ false
    new = ap (λ (n : ℕ). has number n bonds) (sym named) ∙ absent

    -- the bond has too many rolls
    pub too_many : (e : Refusal) → Err e ≡ rolls_answer t → Err e ≡ admitted bonds t
    unfolding admitted
    too_many e r = go (leb (length (rolls t)) 100) r ∙ rw new refl
      where
        go : (b : Bool) → Err e ≡ cond b (Ok t) (refuse 5 (number t ∷ []))
            → Err e ≡ cond b (cond (has_room bonds (length (rolls t))) (Ok t) (refuse 6 (number t ∷ []))) (refuse 5 (number t ∷ []))
        go true s = let z : ◌≡◌ {A = ℕ} 0 1 = cc in absurd (let w : ⊥ = omega arith in w)
        go false s = s

    -- its rolls were granted, and are m
    module _ (x : Terms) (granted : Ok x ≡ rolls_answer t) (m : ℕ) (many : m ≡ length (rolls x)) where
      few : (leb (length (rolls t)) 100 ≡ true) × (x ≡ t)
      few = go (leb (length (rolls t)) 100) refl granted
        where
          go : (b : Bool) → leb (length (rolls t)) 100 ≡ b → Ok x ≡ cond b (Ok t) (refuse 5 (number t ∷ [])) → (leb (length (rolls t)) 100 ≡ true) × (x ≡ t)
          go true p s = (p, cc)
          go false p s = let z : ◌≡◌ {A = ℕ} 0 1 = cc in absurd (let w : ⊥ = omega arith in w)

      room : {b : Bool} → has_room bonds m ≡ b → has_room bonds (length (rolls t)) ≡ b
      room h = ap (has_room bonds) (sym (many ∙ ap (λ (y : Terms). length (rolls y)) few.1)) ∙ h

      -- there is no room
      pub no_room : has_room bonds m ≡ false → refuse 6 (k ∷ []) ≡ admitted bonds t
      unfolding admitted
      no_room h = let a = new in let f = few.0 in let r = room h in rw (named, a, f, r)

      -- there is
      pub may_stand : has_room bonds m ≡ true → Ok x ≡ admitted bonds t
      unfolding admitted
      may_stand h = let a = new in let f = few.0 in let r = room h in ap Ok few.1 ∙ rw (a, f, r) refl

-- what is known of terms that may stand
pub record Stands (bonds : List Terms) (t : Terms) : Type 0 where
  pub absent : has number (number t) bonds ≡ false
  pub place : length bonds < 32

pub stands : (bonds : List Terms) (t x : Terms) → Ok x ≡ admitted bonds t → (x ≡ t) × Stands bonds t
unfolding admitted
stands bonds t x e = go (has number (number t) bonds) refl e
  where
    not : {A : Type 0} (r : Refusal) → ◌≡◌ {A = Result Terms Refusal} (Ok x) (Err r) → A
    not r s = let z : ◌≡◌ {A = ℕ} 0 1 = cc in absurd (let w : ⊥ = omega arith in w)

    room : has number (number t) bonds ≡ false → (b : Bool) → has_room bonds (length (rolls t)) ≡ b → Ok x ≡ cond b (Ok t) (refuse 6 (number t ∷ [])) → (x ≡ t) × Stands bonds t
    room a true p s = (cc, record { absent = a; place = grind (arith, nat_tests) })
    room a false p s = not _ s

    few : has number (number t) bonds ≡ false → (b : Bool) → Ok x ≡ cond b (cond (has_room bonds (length (rolls t))) (Ok t) (refuse 6 (number t ∷ []))) (refuse 5 (number t ∷ []))
        → (x ≡ t) × Stands bonds t
    few a true s = room a (has_room bonds (length (rolls t))) refl s
    few a false s = not _ s

    go : (b : Bool) → has number (number t) bonds ≡ b
        → Ok x ≡ cond b (refuse 3 (number t ∷ [])) (cond (leb (length (rolls t)) 100) (cond (has_room bonds (length (rolls t))) (Ok t) (refuse 6 (number t ∷ []))) (refuse 5 (number t ∷ [])))
        → (x ≡ t) × Stands bonds t
    go true p s = not _ s
    go false p s = few p (leb (length (rolls t)) 100) s

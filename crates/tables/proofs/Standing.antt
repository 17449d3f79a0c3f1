-- The laws of tables whose keys rise: which records stand in them.
use Rattle.std.proofs.Common.{◌≡◌, ℕ, zero, suc, ◌≤◌, true, false, cond, eqb, ltb, leb, ◌⊎◌, List, [], ◌∷◌, get_or, sym, refl, ap, ◌∙◌, inl, inr, arith}
use Rattle.std.proofs.lemmas.Bool.{false≢true, both_ways, cases_Bool, cond_both, and_parts, leb-true, eqb-true}
use Rattle.std.proofs.lemmas.Bool.Decides.{nat_tests}
use Rattle.tables.specs.Tables.{rising, place, has, with_record, without}
use Rattle.tables.specs.TableLaws.{Stands, HeldLaw, PutLaw, OutLaw}
use Rattle.tables.proofs.Rises.{rising_with, rising_without, has_without}

-- a record stands first
pub stands_here : {R : Type 0} (x r : R) (xs : List R) → x ≡ r → Stands r (x ∷ xs)
stands_here x r xs e = (0, omega arith, e)

-- what stands in the rest stands in the list
pub stands_on : {R : Type 0} (x r : R) (xs : List R) → Stands r xs → Stands r (x ∷ xs)
stands_on x r xs (k, h, e) = (suc k, omega arith, e)

-- what stands in the list is the first, or stands in the rest
pub stands_where : {R : Type 0} (x r : R) (xs : List R) → Stands r (x ∷ xs) → (x ≡ r) ⊎ Stands r xs
stands_where x r xs (zero, h, e) = inl e
stands_where x r xs (suc k, h, e) = inr (k, omega arith, e)

-- what goes for the rest goes behind a further record
behind : {R : Type 0} (x r : R) (xs ys : List R) → (Stands r xs → Stands r ys) → Stands r (x ∷ xs) → Stands r (x ∷ ys)
behind x r xs ys f s = elim (stands_where x r xs s) [ inl e ↦ stands_here x r ys e | inr t ↦ stands_on x r ys (f t) ]

-- none stands in an empty list
stands_nowhere : {R : Type 0} (P : Type 0) (r : R) → Stands r [] → P
stands_nowhere P r (k, h, e) = absurd (let z : ⊥ = omega arith in z)

module _ {R : Type 0} (key : R → ℕ) where
  -- a key that is held is some record's
  held_only : (k : ℕ) (xs : List R) → has key k xs ≡ true → (r : R) × (key r ≡ k) × Stands r xs
  held_only k [] h = absurd (false≢true h)
  held_only k (x ∷ xs) h =
      elim (cases_Bool (ltb (key x) k)) [
        | inl t ↦ let i = held_only k xs (grind (arith, nat_tests)) in (i.0, i.1, stands_on x i.0 xs i.2)
        | inr f ↦ (x, grind (arith, nat_tests), stands_here x x xs refl)
      ]

  -- a record of rising keys is no lower than the first may be, its key is held, and it stands at its key's place
  stood : (low : ℕ) (xs : List R) (r : R) → rising key low xs ≡ true → Stands r xs
      → (low ≤ key r) × (has key (key r) xs ≡ true) × ((d : R) → get_or xs (place key (key r) xs) d ≡ r)
  stood low [] r h s = stands_nowhere ((low ≤ key r) × (false ≡ true) × ((d : R) → d ≡ r)) r s
  stood low (x ∷ xs) r h s =
      let p = and_parts (leb low (key x)) (rising key (suc (key x)) xs) h in
      let first = leb-true low (key x) p.0 in
      elim (stands_where x r xs s) [
        | inl e ↦ let k = ap key e in (omega arith, grind (arith, nat_tests), λ d. grind (arith, nat_tests))
        | inr t ↦ let i = stood (suc (key x)) xs r p.1 t in (omega arith, grind (arith, nat_tests), λ d. grind (arith, nat_tests))
      ]

  -- no two records have one key
  one_of_key : (xs : List R) (r x : R) → rising key 0 xs ≡ true → Stands r xs → Stands x xs → key x ≡ key r → x ≡ r
  one_of_key xs r x h s t e =
      sym ((stood 0 xs x h t).2 r) ∙ ap (λ k. get_or xs (place key k xs) r) e ∙ (stood 0 xs r h s).2 r

  -- a record of another key than the first stands further on
  stands_past : (y x : R) (xs : List R) → (key x ≡ key y → ⊥) → Stands x (y ∷ xs) → Stands x xs
  stands_past y x xs other s = elim (stands_where y x xs s) [ inl e ↦ absurd (other (sym (ap key e))) | inr t ↦ t ]

  -- what is put in or taken out passes a lower key, and stops at an equal or a higher one
  by_order : (a b : ℕ) (lower equal higher : List R) (P : List R → Type 0) → P lower → (a ≡ b → P equal) → P higher → P (cond (ltb a b) lower (cond (eqb a b) equal higher))
  by_order a b lower equal higher P p q s =
      cond_both (ltb a b) lower (cond (eqb a b) equal higher) P (λ _. p)
      (λ _. cond_both (eqb a b) equal higher P (λ e. q (eqb-true a b e)) (λ _. s))

  -- a record that is put in stands there
  put_comes : (r : R) (xs : List R) → Stands r (with_record key r xs)
  put_comes r [] = stands_here r r [] refl
  put_comes r (y ∷ xs) =
      by_order (key y) (key r) (y ∷ with_record key r xs) (r ∷ xs) (r ∷ y ∷ xs) (Stands r)
      (stands_on y r (with_record key r xs) (put_comes r xs)) (λ _. stands_here r r xs refl) (stands_here r r (y ∷ xs) refl)

  module _ (x : R) where
    -- every record of another key stays
    put_stays : (r : R) (xs : List R) → (key x ≡ key r → ⊥) → Stands x xs → Stands x (with_record key r xs)
    put_stays r [] other s = stands_nowhere (Stands x (r ∷ [])) x s
    put_stays r (y ∷ xs) other s =
        by_order (key y) (key r) (y ∷ with_record key r xs) (r ∷ xs) (r ∷ y ∷ xs) (Stands x)
        (behind y x xs (with_record key r xs) (put_stays r xs other) s)
        (λ e. stands_on r x xs (stands_past y x xs (λ f. other (f ∙ e)) s)) (stands_on r x (y ∷ xs) s)

    -- and none else of another key comes
    put_only : (r : R) (xs : List R) → (key x ≡ key r → ⊥) → Stands x (with_record key r xs) → Stands x xs
    put_only r [] other = stands_past r x [] other
    put_only r (y ∷ xs) other =
        by_order (key y) (key r) (y ∷ with_record key r xs) (r ∷ xs) (r ∷ y ∷ xs) (λ l. Stands x l → Stands x (y ∷ xs))
        (behind y x (with_record key r xs) xs (put_only r xs other))
        (λ e s. stands_on y x xs (stands_past r x xs other s)) (stands_past r x (y ∷ xs) other)

    -- every record of another key than one taken out stays
    out_stays : (k : ℕ) (xs : List R) → (key x ≡ k → ⊥) → Stands x xs → Stands x (without key k xs)
    out_stays k [] other s = s
    out_stays k (y ∷ xs) other s =
        by_order (key y) k (y ∷ without key k xs) xs (y ∷ xs) (Stands x)
        (behind y x xs (without key k xs) (out_stays k xs other) s) (λ e. stands_past y x xs (λ f. other (f ∙ e)) s) s

    -- and none comes
    out_only : (k : ℕ) (xs : List R) → Stands x (without key k xs) → Stands x xs
    out_only k [] = λ s. s
    out_only k (y ∷ xs) =
        by_order (key y) k (y ∷ without key k xs) xs (y ∷ xs) (λ l. Stands x l → Stands x (y ∷ xs))
        (behind y x (without key k xs) xs (out_only k xs)) (λ e. stands_on y x xs) (λ s. s)

  module _ (xs : List R) (up : rising key 0 xs ≡ true) where
    -- a key is held exactly if some record has it
    pub held_law : HeldLaw key xs
    held_law = record { only = λ k. held_only k xs; all = λ r s. (stood 0 xs r up s).1 }

    -- putting a record in changes nothing else
    pub put_law : (r : R) → PutLaw key r xs
    put_law r =
        let up_with = rising_with key r 0 xs up (omega arith) in
        record {
          rises = up_with;
          comes = put_comes r xs;
          stays = λ x s other. put_stays x r xs other s;
          only = λ x s. (one_of_key (with_record key r xs) r x up_with (put_comes r xs) s, λ other. put_only x r xs other s);
        }

    -- taking a key out changes nothing else
    pub out_law : (k : ℕ) → OutLaw key k xs
    out_law k =
        let up_without = rising_without key k 0 xs up in
        record {
          rises = up_without;
          stays = λ x s other. out_stays x k xs other s;
          only = λ x s. (
            λ e. both_ways (has key k (without key k xs)) (has_without key k 0 xs up)
                (ap (λ m. has key m (without key k xs)) (sym e) ∙ (stood 0 (without key k xs) x up_without s).1),
            out_only x k xs s,
          );
        }

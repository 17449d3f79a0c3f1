-- A list written from the start of lent places, member by member.
use Rattle.std.proofs.Common.{◌≡◌, ℕ, ◌+◌, ◌<◌, ◌≤◌, List, [], ◌∷◌, ◌++◌, length, take, drop, set, Some, refl, sym, ap, ◌∙◌, ap₂, append_assoc, append-nil, length-append, length-drop, add-one, arith}
use Rattle.std.proofs.Math.Seq.{take-append_seam, drop-append_seam}
use Rattle.std.proofs.lemmas.List.{take-append-drop, length-take-le, drop-drop, set_split}
use Rattle.std.proofs.lemmas.Bool.{le-leb, cond-true}
use Rattle.changes.specs.Changes.{written, written_count}

-- the first n places and what is still to come make up the whole; the other places are as before
pub record Written {A : Type 0} (whole rest places out : List A) (n : ℕ) : Type 0 where
  pub front : take n out ++ rest ≡ whole
  pub back : drop n out ≡ drop n places
  pub room : n + length rest ≤ length out

module _ {A : Type 0} (whole places : List A) where
  -- nothing is written yet
  pub write_start : length whole ≤ length places → Written whole whole places places 0
  write_start h = record { front = refl; back = refl; room = omega arith }

  -- A run of members that come next.
  module _ (rest run more out : List A) (n : ℕ) (e : rest ≡ run ++ more) (w : Written whole rest places out n) where
    -- it fits
    pub run_fits : length run ≤ length (drop n out)
    run_fits = let l = ap length e in omega (arith, w.room, length-append run more, length-drop n out)

    -- so it is counted
    pub run_counted : written_count run (drop n out) ≡ Some (length run)
    run_counted = cond-true _ _ _ (le-leb (length run) (length (drop n out)) run_fits)

    -- it is put behind the first n places
    write_next : (new : List A) → new ≡ take n out ++ (run ++ drop (n + length run) out) → Written whole more places new (n + length run)
    write_next new f =
        let front = take n out ++ run in
        let back = drop (n + length run) out in
        let l = ap length e in
        let m : n + length run ≡ length front = omega (arith, w.room, length-append {A = A}, length-take-le n out) in
        let g : new ≡ front ++ back = f ∙ sym (append_assoc (take n out) run back) in
        rw (m, g) (record {
          front = ap (λ (z : List A). z ++ more) (take-append_seam front back) ∙ append_assoc (take n out) run more ∙ ap (λ (z : List A). take n out ++ z) (sym e) ∙ w.front;
          back =
              drop-append_seam front back
              ∙ sym (drop-drop (length run) n out)
              ∙ ap (drop (length run)) w.back
              ∙ drop-drop (length run) n places
              ∙ ap (λ (k : ℕ). drop k places) m;
          room = omega (arith, w.room, length-append {A = A}, length-drop {A = A});
        })

    -- it is written into the places from n on
    pub write_run : (tail new : List A) → tail ≡ written run (drop n out) → new ≡ take n out ++ tail → Written whole more places new (n + length run)
    write_run tail new t f =
        let s = cond-true _ _ _ (le-leb (length run) (length (drop n out)) run_fits) in
        write_next new (f ∙ ap (λ (z : List A). take n out ++ z) (t ∙ s ∙ ap (λ (z : List A). run ++ z) (drop-drop (length run) n out)))

  -- one more fits
  pub one_fits : (rest more out : List A) (n : ℕ) (a : A) → rest ≡ a ∷ more → Written whole rest places out n → n < length out
  one_fits rest more out n a e w = let l = ap length e in omega (arith, w.room)

  -- one more is written
  pub write_one : (rest more out new : List A) (n : ℕ) (a : A) → rest ≡ a ∷ more → new ≡ set out n a → Written whole rest places out n → Written whole more places new (n + 1)
  write_one rest more out new n a e f w =
      write_next rest (a ∷ []) more out n e w new
      (f ∙ set_split out n a (one_fits rest more out n a e w) ∙ ap (λ (k : ℕ). take n out ++ a ∷ drop k out) (sym (add-one n)))

  -- all is written
  pub write_end : (out : List A) (n : ℕ) → Written whole [] places out n → (out ≡ whole ++ drop (length whole) places) × (n ≡ length whole)
  write_end out n w =
      let e = sym (append-nil (take n out)) ∙ w.front in
      let m : n ≡ length whole = sym (length-take-le n out (omega (arith, w.room))) ∙ ap length e in
      (sym (take-append-drop n out) ∙ ap₂ (λ (a b : List A). a ++ b) e (w.back ∙ ap (λ (k : ℕ). drop k places) m), m)

  -- the answer if all fit
  pub when_fits : (out : List A) (n : ℕ) → length whole ≤ length places → Written whole [] places out n → (out ≡ written whole places) × (Some n ≡ written_count whole places)
  when_fits out n h w =
      let b = le-leb (length whole) (length places) h in
      let e = write_end out n w in
      (e.0 ∙ sym (cond-true _ _ _ b), ap Some e.1 ∙ sym (cond-true _ _ _ b))

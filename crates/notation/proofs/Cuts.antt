-- The first line, and then the lines of what follows.
use Rattle.std.proofs.Common.{◌≡◌, ℕ, ◌+◌, ◌<◌, Bool, true, false, cond, eqb, List, [], ◌∷◌, length, take, drop, position, unwrap_or, not, ◌==◌, refl, ap, ◌∙◌, add-one, one-add, arith}
use Rattle.std.proofs.lemmas.List.{drop-drop}
use Rattle.std.proofs.lemmas.List.Recursion.{is_position_or_len}
use Rattle.std.proofs.lemmas.List.Folds.{length-prefix_len}
use Rattle.std.proofs.lemmas.Grind.{common_steps}
use Rattle.notation.specs.Readers.{before}
use Rattle.notation.specs.InputLines.{onto, lines_of}

-- the bytes before the first line feed, and those after it
abbrev first : List ℕ → List ℕ
first bs = take (before 10 bs) bs

abbrev past : List ℕ → List ℕ
past bs = drop (before 10 bs + 1) bs

first_at : (b : ℕ) (bs : List ℕ) (c : Bool) → onto b (lines_of bs) ≡ (b ∷ first bs) ∷ lines_of (past bs)
    → cond c ([] ∷ lines_of bs) (onto b (lines_of bs)) ≡ take (cond c 0 (1 + before 10 bs)) (b ∷ bs) ∷ lines_of (drop (cond c 0 (1 + before 10 bs) + 1) (b ∷ bs))
first_at b bs true more = refl
first_at b bs false more = rw (one-add, add-one) (rw add-one at more)

onto_first : (b : ℕ) (bs : List ℕ) → onto b (lines_of bs) ≡ (b ∷ first bs) ∷ lines_of (past bs)
onto_first b [] = refl
onto_first b (x ∷ xs) = ap (onto b) (first_at x xs (eqb x 10) (onto_first x xs))

first_then : (bs : List ℕ) → 0 < length bs → lines_of bs ≡ first bs ∷ lines_of (past bs)
first_then [] h = absurd (omega arith)
first_then (b ∷ bs) h = first_at b bs (eqb b 10) (onto_first b bs)

-- the first line, as it is cut
pub line_cut : (bs text tail after : List ℕ) → 0 < length bs → text ≡ take (before 10 bs) bs → tail ≡ drop (before 10 bs) bs → after ≡ drop 1 tail
    → lines_of bs ≡ text ∷ lines_of after
line_cut bs text tail after some t d a =
    let f = first_then bs some in
    let e = a ∙ ap (drop 1) d ∙ drop-drop 1 (before 10 bs) bs in
    rw (f, t, e) refl

-- the first place of a byte, or the length, as the library finds it
pub before_is : (stop : ℕ) (bs : List ℕ) → before stop bs ≡ unwrap_or (position (λ b. b == stop) bs) (length bs)
before_is stop bs =
    let e = is_position_or_len (before stop) (λ b. b == stop) refl (λ _ _. refl) bs in
    let l = length-prefix_len (λ b. not (b == stop)) bs in
    grind (arith, common_steps)

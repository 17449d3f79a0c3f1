-- The lines of an input, numbered from 1, and what each is.
use Rattle.std.specs.Prelude.{ℕ, ◌+◌, Bool, true, cond, List, [], ◌∷◌, length, ◌==◌, nat_lt}

-- a byte at the front of the first line
abbrev pub onto : ℕ → List (List ℕ) → List (List ℕ)
onto b [] = (b ∷ []) ∷ []
onto b (l ∷ ls) = (b ∷ l) ∷ ls

-- the lines: each ends in a line feed (10), which the last may lack
abbrev pub lines_of : List ℕ → List (List ℕ)
lines_of [] = []
lines_of (b ∷ bs) = cond (b == 10) ([] ∷ lines_of bs) (onto b (lines_of bs))

-- a line with its number: a remark, an entry, or too long to be read
pub data Part : Type 0 where
  remark : ℕ → List ℕ → Part
  entry : ℕ → List ℕ → Part
  too_long : ℕ → Part

-- the number of a line
abbrev pub number_of_part : Part → ℕ
number_of_part (remark n text) = n
number_of_part (entry n text) = n
number_of_part (too_long n) = n

-- a remark is empty or begins with a number sign (35)
abbrev pub is_remark : List ℕ → Bool
is_remark [] = true
is_remark (b ∷ bs) = b == 35

-- above 100 bytes a line is too long, remarks too
abbrev pub part : ℕ → List ℕ → Part
part n l = cond (nat_lt 100 (length l)) (too_long n) (cond (is_remark l) (remark n l) (entry n l))

-- the lines with their numbers, the first of which is n
abbrev pub numbered : ℕ → List (List ℕ) → List Part
numbered n [] = []
numbered n (l ∷ ls) = part n l ∷ numbered (n + 1) ls

-- the lines of an input with their numbers
abbrev pub parts_of : List ℕ → List Part
parts_of input = numbered 1 (lines_of input)

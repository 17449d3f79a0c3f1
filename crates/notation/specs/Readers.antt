-- Reading one thing after another.
use Rattle.std.specs.Prelude.{◌≡◌, ℕ, ◌+◌, Bool, cond, List, [], ◌∷◌, Some, None, Option, ◌==◌}

-- how many bytes stand before the first that is stop, or all where none is
abbrev pub before : ℕ → List ℕ → ℕ
before stop [] = 0
before stop (b ∷ bs) = cond (b == stop) 0 (1 + before stop bs)

-- the value, if the test is passed
abbrev pub when : {A : Type 0} → Bool → Option A → Option A
when b o = cond b o None

-- one value, and then what f makes of it
abbrev pub and_then : {A B : Type 0} → Option A → (A → Option B) → Option B
and_then None f = None
and_then (Some x) f = f x

-- what a reader took: nothing where o has nothing, else the value, with the rest left
abbrev pub Took : {A : Type 0} → Option (A × List ℕ) → Option A → List ℕ → Type 0
Took o None rest = o ≡ None
Took o (Some x) rest = o ≡ Some (x, rest)

-- the one holds exactly if the other does
abbrev pub Exactly : Type 0 → Type 0 → Type 0
Exactly P Q = (P → Q) × (Q → P)

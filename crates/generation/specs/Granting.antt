-- One answer after another: all that is granted, or the first refusal.
use Rattle.std.specs.Prelude.{List, [], ◌∷◌, Ok, Err, Result}
use Rattle.faults.specs.Refusals.{Refusal}

-- an answer before the others; a refusal of it counts first
abbrev pub followed : {A : Type 0} → Result A Refusal → Result (List A) Refusal → Result (List A) Refusal
followed (Err e) others = Err e
followed (Ok a) (Err e) = Err e
followed (Ok a) (Ok bs) = Ok (a ∷ bs)

-- what f answers of each member of a list, in order, or its first refusal
unfoldable pub each_granted : {A B : Type 0} → (A → Result B Refusal) → List A → Result (List B) Refusal
each_granted f [] = Ok []
each_granted f (x ∷ xs) = followed (f x) (each_granted f xs)

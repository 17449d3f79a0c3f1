-- The amendment layer, from its entries and the codes under it.
use Rattle.std.specs.Prelude.{ℕ, ◌≤◌, cond, List, [], ◌∷◌, map, ◌==◌}
use Rattle.std.proofs.lemmas.Bool.{cond_both}
use Rattle.amendments.specs.declared.entered.Entered.{Entered}
use Rattle.amendments.specs.Meanings.{Meaning, Rest, meaning}

-- entries are kept by day
abbrev pub day_of : Entered → ℕ
day_of e = e.day.0

-- the code of a day: its entry's, else the code under it
abbrev pub code_now : List Entered → ℕ → ℕ → ℕ
code_now [] under d = under
code_now (e ∷ es) under d = cond (day_of e == d) e.code.value (code_now es under d)

-- the code of each day
abbrev pub layer_codes : (ℕ → ℕ) → List Entered → ℕ → ℕ
layer_codes under entries d = code_now entries (under d) d

-- the code under is that of the calendar below, the entered days are those of the entries
abbrev pub layer_rest : (ℕ → ℕ) → List Entered → ℕ → Rest
layer_rest under entries number = record { under = under; entered = map day_of entries; number = number }

-- the whole meaning of the layer
abbrev pub layer_meaning : (ℕ → ℕ) → List Entered → ℕ → Meaning
layer_meaning under entries number = meaning (layer_codes under entries) (layer_rest under entries number)

-- no code of a layer is above 15
pub layer_small : (entries : List Entered) (under d : ℕ) → under ≤ 15 → code_now entries under d ≤ 15
layer_small [] under d l = l
layer_small (e ∷ es) under d l =
    cond_both (day_of e == d) e.code.value (code_now es under d) (λ c. c ≤ 15) (λ _. e.code.small) (λ _. layer_small es under d l)

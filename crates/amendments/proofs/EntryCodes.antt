-- What a day that is entered or taken out makes of a layer's entries and of its meaning.
use Rattle.std.proofs.Common.{◌≡◌, ℕ, suc, true, false, cond, eqb, List, [], ◌∷◌, get_or, refl, arith}
use mathlib.Core.Path.{fun_ext}
use Rattle.std.proofs.lemmas.Bool.{false≢true}
use Rattle.std.proofs.lemmas.Bool.Decides.{nat_tests}
use Rattle.tables.specs.Tables.{rising, place, has, with_record, without}
use Rattle.tables.proofs.Rises.{has_below}
use Rattle.tables.proofs.Views.{map_with, map_without}
use Rattle.amendments.specs.declared.entered.Entered.{Entered}
use Rattle.amendments.specs.Meanings.{meaning, itself, recoded, amended, restored}
use Rattle.amendments.specs.Layers.{day_of, code_now, layer_codes, layer_meaning}

-- an entry's code is that of its day
pub code_held : (es : List Entered) (under d : ℕ) (z : Entered) → has day_of d es ≡ true → (get_or es (place day_of d es) z).code.value ≡ code_now es under d
code_held [] under d z h = absurd (false≢true h)
code_held (e ∷ es) under d z h = let i = code_held es under d z in grind (arith, nat_tests)

-- a day without an entry has the code under it
pub code_absent : (low : ℕ) (es : List Entered) (under d : ℕ) → rising day_of low es ≡ true → has day_of d es ≡ false → under ≡ code_now es under d
code_absent low [] under d up h = refl
code_absent low (e ∷ es) under d up h =
    let i = code_absent (suc (day_of e)) es under d in let j = has_below day_of d (suc (day_of e)) es in grind (arith, nat_tests)

-- an entry put in gives its day its code
code_with : (r : Entered) (es : List Entered) (under d : ℕ) → code_now (with_record day_of r es) under d ≡ cond (eqb d (day_of r)) r.code.value (code_now es under d)
code_with r [] under d = grind (arith, nat_tests)
code_with r (e ∷ es) under d = let i = code_with r es under d in grind (arith, nat_tests)

-- one taken out gives its day the code under it
code_without : (low : ℕ) (es : List Entered) (under day d : ℕ) → rising day_of low es ≡ true → code_now (without day_of day es) under d ≡ cond (eqb d day) under (code_now es under d)
code_without low [] under day d up = grind (arith, nat_tests)
code_without low (e ∷ es) under day d up =
    let i = code_without (suc (day_of e)) es under day d in
    let j = has_below day_of day (suc (day_of e)) es in
    let a = code_absent (suc (day_of e)) es under day in
    grind (arith, nat_tests)

-- meanings of equal codes and entered days are equal
meanings_same : (under : ℕ → ℕ) (number : ℕ) {codes codes' : ℕ → ℕ} {days days' : List ℕ} → codes ≡ codes' → days ≡ days' → meaning codes (record { under = under; entered = days; number = number }) ≡ meaning codes' (record { under = under; entered = days'; number = number })
meanings_same under number c d = λ i. record { codes = c i; rest = record { under = under; entered = d i; number = number } }

-- an entry put in amends its day
pub meaning_with : (r : Entered) (es : List Entered) (under : ℕ → ℕ) (number : ℕ) → layer_meaning under (with_record day_of r es) number ≡ amended (layer_meaning under es number) (day_of r) r.code.value
meaning_with r es under number =
    let codes : layer_codes under (with_record day_of r es) ≡ recoded (layer_codes under es) (day_of r) r.code.value = fun_ext (λ d. code_with r es (under d) d) in
    meanings_same under number codes (map_with day_of itself r es)

-- one taken out restores its day
pub meaning_without : (day : ℕ) (es : List Entered) (under : ℕ → ℕ) (number : ℕ) → rising day_of 0 es ≡ true → layer_meaning under (without day_of day es) number ≡ restored (layer_meaning under es number) day
meaning_without day es under number up =
    let codes : layer_codes under (without day_of day es) ≡ recoded (layer_codes under es) day (under day) =
    fun_ext (λ d. let w = code_without 0 es (under d) day d up in grind (arith, nat_tests)) in
    meanings_same under number codes (map_without day_of itself day es)

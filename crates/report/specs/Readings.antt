-- The entries of an input, and the calls that they ask for.
use Rattle.std.specs.Prelude.{ℕ, List, [], ◌∷◌, Option, Some, None, Ok, Err, Result}
use Rattle.faults.specs.Refusals.{Refusal}
use Rattle.notation.specs.InputLines.{Part, number_of_part}
use Rattle.notation.specs.Entries.{line_answer}
use Rattle.sheet.specs.declared.call.Call.{Call}

-- an entry: its line, and the call that it asks for, or a refusal
pub record Typed : Type 0 where
  pub line : ℕ
  pub call : Result Call Refusal

-- a line before others; a remark is no entry
abbrev pub typed_before : ℕ → Result (Option Call) Refusal → List Typed → List Typed
typed_before n (Ok None) others = others
typed_before n (Ok (Some c)) others = record { line = n; call = Ok c } ∷ others
typed_before n (Err e) others = record { line = n; call = Err e } ∷ others

-- the entries of some lines
abbrev pub typed : List Part → List Typed
typed [] = []
typed (p ∷ ps) = typed_before (number_of_part p) (line_answer p) (typed ps)

-- a call before others; a refused entry asks for none
abbrev pub called_before : Result Call Refusal → List Call → List Call
called_before (Err e) others = others
called_before (Ok c) others = c ∷ others

-- the calls that entries ask for
abbrev pub calls_of : List Typed → List Call
calls_of [] = []
calls_of (t ∷ ts) = called_before t.call (calls_of ts)

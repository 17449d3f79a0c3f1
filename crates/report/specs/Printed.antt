-- What the program prints, byte for byte.
use Rattle.std.specs.Prelude.{ℕ, cond, List, [], ◌∷◌, ◌++◌, length, codes, decimal, Option, Some, None, Ok, Err, Result, nat_lt}
use Rattle.faults.specs.Refusals.{Refusal}
use Rattle.conventions.specs.Turns.{modified_following}
use Rattle.notation.specs.InputLines.{parts_of}
use Rattle.changes.specs.Changes.{Altered}
use Rattle.changes.specs.ChangeTexts.{change_text}
use Rattle.sheet.specs.declared.call.Call.{Call}
use Rattle.sheet.specs.declared.call.Answer.{Answer}
use Rattle.sheet.specs.AnswerTexts.{answer_text}
use Rattle.sheet.specs.FreshSheets.{opened}
use Rattle.sheet.specs.Steps.{Outcome}
use Rattle.sheet.specs.EveryUse.{outcomes}
use Rattle.report.specs.Readings.{Typed, typed, calls_of}
use Rattle.report.specs.Program.{opening, free_places}

-- a text and its line feed (10)
abbrev pub line_of : List ℕ → List ℕ
line_of text = text ++ (10 ∷ [])

-- a refusal, by its number and the line of the input
abbrev pub refusal_line : ℕ → ℕ → List ℕ
refusal_line number line = line_of (codes "no " ++ decimal number ++ codes " " ++ decimal line)

-- a line for each change; a free place prints nothing
abbrev pub change_lines : List (Option Altered) → List ℕ
change_lines [] = []
change_lines (None ∷ ps) = change_lines ps
change_lines (Some c ∷ ps) = line_of (change_text c) ++ change_lines ps

-- what became of a call: its answer and its changes, or its refusal
abbrev pub answer_lines : ℕ → Result Answer Refusal → List (Option Altered) → List ℕ
answer_lines line (Err e) places = refusal_line e.number line
answer_lines line (Ok a) places = line_of (answer_text a) ++ change_lines places

-- what became of an entry, before the later ones: a refused one takes no outcome
abbrev pub entry_before : ℕ → Result Call Refusal → List Outcome → (List Outcome → List ℕ) → List ℕ
entry_before line (Err e) os later = refusal_line e.number line ++ later os
entry_before line (Ok c) [] later = []
entry_before line (Ok c) (o ∷ os) later = answer_lines line o.answer o.changes ++ later os

-- what became of each entry, in order
abbrev pub entry_lines : List Typed → List Outcome → List ℕ
entry_lines [] os = []
entry_lines (t ∷ ts) os = entry_before t.line t.call os (entry_lines ts)

-- what is told of the calls of some entries by the fresh sheet under modified following
abbrev pub told_of_entries : List Typed → List Outcome
told_of_entries ts = outcomes modified_following (opened opening) free_places (calls_of ts)

-- each entry's lines, by what the fresh sheet makes of the calls
abbrev pub entries_text : List Typed → List ℕ
entries_text ts = entry_lines ts (told_of_entries ts)

-- the whole text: the convention's letter, then each entry's lines; of more than 65,536 bytes nothing is read
abbrev pub report_text : List ℕ → List ℕ
report_text input =
    line_of (codes "convention M")
    ++ cond (nat_lt 65536 (length input)) (refusal_line 51 0) (entries_text (typed (parts_of input)))

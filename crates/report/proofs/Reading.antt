-- The entries of an input, read line by line.
use Rattle.std.proofs.Common.{◌≡◌, ℕ, List, [], ◌∷◌, ◌++◌, map, Option, Some, None, Ok, Err, Result, append_assoc, ap}
use Rattle.std.specs.Result.{result_transpose}
use Rattle.std.proofs.lemmas.List.{map-append}
use Rattle.faults.specs.declared.origins.TextFault.{TextFault}
use Rattle.faults.specs.Refusals.{told, text_refusal}
use Rattle.sheet.specs.declared.call.Call.{Call}
use Rattle.notation.specs.InputLines.{Part, number_of_part}
use Rattle.notation.specs.Handed.{taken}
use Rattle.notation.specs.Entries.{line_answer}
use Rattle.report.specs.declared.entry.Entry.{Entry}
use Rattle.report.specs.Readings.{Typed, typed, typed_before}
use Rattle.report.specs.ReportViews.{seen_entry}

-- the line that is handed out is the first of those to come
pub first_to_come : (line : Option Part) (p : Part) (before after : List Part) → (line, after) ≡ taken before → line ≡ Some p → before ≡ p ∷ after
first_to_come line p [] after e is = let none = ap (λ (x : Option Part × List Part). x.0) e in cc
first_to_come line p (q ∷ ps) after e is =
    let some = ap (λ (x : Option Part × List Part). x.0) e in
    let rest = ap (λ (x : Option Part × List Part). x.1) e in
    cc

-- a line that asks for a call, or is refused, is an entry before the others
entry_first : (n : ℕ) (read : Result (Option Call) TextFault) (call : Result Call TextFault) (others : List Typed)
    → result_transpose read ≡ Some call → typed_before n (told text_refusal read) others ≡ seen_entry (record { line = n; call = call }) ∷ others
entry_first n (Ok None) call others e = cc
entry_first n (Ok (Some x)) call others e = cc
entry_first n (Err fault) call others e = cc

-- one entry more, and one line fewer to come, are the same entries
pub one_entry_more : (es : List Entry) (e : Entry) (read : Result (Option Call) TextFault) (p : Part) (before after : List Part)
    → before ≡ p ∷ after → e.line ≡ number_of_part p → told text_refusal read ≡ line_answer p → result_transpose read ≡ Some e.call
    → map seen_entry (es ++ e ∷ []) ++ typed after ≡ map seen_entry es ++ typed before
one_entry_more es e read p before after first line answer call =
    let here = entry_first e.line read e.call (typed after) call in
    rw (first, ← line, ← answer, here, map-append) (append_assoc (map seen_entry es) (map seen_entry (e ∷ [])) (typed after))

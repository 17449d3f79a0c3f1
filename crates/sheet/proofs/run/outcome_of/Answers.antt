use Rattle.std.proofs.Common.{ℕ, List, ◌++◌, map, take, Option, sym, ap, ◌∙◌}
use Rattle.std.proofs.lemmas.List.{take-map, take_min}
use Rattle.faults.specs.Refusals.{told, refusal}
use Rattle.changes.specs.declared.change.Change.{Change}
use Rattle.changes.specs.Changes.{Altered, seen_place}
use Rattle.sheet.proofs.run.outcome_of.Goals as goal

pub returns : goal.returns
returns c =
    let list : List (Option Change) = c.args.list.now in
    let n : ℕ = c.places_written.result in
    let items =
    c.in_ok-extend_from_slice.ensures.items ∙ ap (λ (front : List (Option Change)). front ++ take c.min.result list) c.new-changes.ensures.items
    ∙ ap (λ (k : ℕ). take k list) c.min.ensures ∙ take_min n list in
    let seen = ap (map seen_place) items ∙ sym (take-map seen_place n list) ∙ ap (λ (k : ℕ). take k (map seen_place list)) c.places_written.ensures in
    ap (λ (places : List (Option Altered)). record { answer = told refusal c.args.answer; changes = places }) seen

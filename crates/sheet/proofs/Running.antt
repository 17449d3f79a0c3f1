-- A list of calls, made one after another.
use Rattle.std.proofs.Common.{◌≡◌, ℕ, List, [], ◌∷◌, ◌++◌, Option, sym, refl, ◌∙◌, append_assoc, append-nil}
use Rattle.changes.specs.Changes.{Altered}
use Rattle.sheet.specs.declared.call.Call.{Call}
use Rattle.sheet.specs.FreshSheets.{Fresh}
use Rattle.sheet.specs.Steps.{Done, step, Outcome, told_of}
use Rattle.sheet.specs.EveryUse.{sheet_after, list_after, outcomes}

module _ (tries : ℕ → List ℕ) (start : Fresh) (brought : List (Option Altered)) (calls : List Call) where
  -- what was told so far, the sheet and the list, while some calls are still to be made
  pub record OnTheWay (told : List Outcome) (s : Fresh) (list : List (Option Altered)) (rest : List Call) : Type 0 where
    pub tellings : told ++ outcomes tries s list rest ≡ outcomes tries start brought calls
    pub sheet : sheet_after tries s list rest ≡ sheet_after tries start brought calls
    pub list_then : list_after tries s list rest ≡ list_after tries start brought calls

  pub at_start : OnTheWay [] start brought calls
  at_start = record { tellings = refl; sheet = refl; list_then = refl }

  -- the next is made
  pub one_more : (told : List Outcome) (s : Fresh) (list : List (Option Altered)) (c : Call) (rest : List Call) (d : Done) → d ≡ step tries s list c
      → OnTheWay told s list (c ∷ rest) → OnTheWay (told ++ (told_of d ∷ [])) d.sheet d.list rest
  one_more told s list c rest d e w =
      rw e (record {
        tellings = append_assoc told (told_of (step tries s list c) ∷ []) (outcomes tries (step tries s list c).sheet (step tries s list c).list rest) ∙ w.tellings;
        sheet = w.sheet;
        list_then = w.list_then;
      })

  -- all are made
  pub at_end : (told : List Outcome) (s : Fresh) (list : List (Option Altered)) → OnTheWay told s list []
      → (told ≡ outcomes tries start brought calls) × (s ≡ sheet_after tries start brought calls) × (list ≡ list_after tries start brought calls)
  at_end told s list w = (sym (append-nil told) ∙ w.tellings, w.sheet, w.list_then)

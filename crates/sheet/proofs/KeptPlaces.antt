-- Places without a free one among them, and the schedules that stand in them.
use Rattle.std.proofs.Common.{◌≡◌, ℕ, Bool, true, cond, eqb, ltb, List, [], ◌∷◌, length, sym, refl, ap, ◌∙◌, arith, Some, None}
use Rattle.std.proofs.lemmas.List.{length-map}
use Rattle.std.proofs.lemmas.Bool.Decides.{nat_tests}
use Rattle.std.proofs.lemmas.Bool.{false≢true}
use Rattle.tables.specs.Tables.{has, with_record, without}
use Rattle.tables.proofs.Views.{map_with, map_without, has_map}
use Rattle.generation.specs.declared.schedule.Schedule.{Schedule}
use Rattle.generation.specs.Schedules.{Scheduled, seen_schedule}
use Rattle.sheet.specs.FreshSheets.{number}
use Rattle.sheet.specs.KeptBonds.{Place, kept, all_live, place_number, bonds_of}

-- schedules by the number of their bond
abbrev pub by_number : Scheduled → ℕ
by_number x = number x.terms

pub length_kept : (ps : List Place) → all_live ps ≡ true → length (kept ps) ≡ length ps
unfolding kept
length_kept [] e = refl
length_kept (None ∷ ps) e = absurd (false≢true e)
length_kept (Some s ∷ ps) e = omega (arith, length_kept ps e)

pub has_kept : (n : ℕ) (ps : List Place) → all_live ps ≡ true → has place_number n ps ≡ has by_number n (kept ps)
unfolding kept
has_kept n [] e = refl
has_kept n (None ∷ ps) e = absurd (false≢true e)
has_kept n (Some s ∷ ps) e =
    ap (λ (b : Bool). cond (ltb (by_number (seen_schedule s)) n) b (eqb (by_number (seen_schedule s)) n)) (has_kept n ps e)

pub kept_with : (s : Schedule) (ps : List Place) → all_live ps ≡ true
    → kept (with_record place_number (Some s) ps) ≡ with_record by_number (seen_schedule s) (kept ps)
unfolding kept
kept_with s [] e = refl
kept_with s (None ∷ ps) e = absurd (false≢true e)
kept_with s (Some r ∷ ps) e = let h = kept_with s ps e in grind (arith, nat_tests)

pub kept_without : (n : ℕ) (ps : List Place) → all_live ps ≡ true → kept (without place_number n ps) ≡ without by_number n (kept ps)
unfolding kept
kept_without n [] e = refl
kept_without n (None ∷ ps) e = absurd (false≢true e)
kept_without n (Some r ∷ ps) e = let h = kept_without n ps e in grind (arith, nat_tests)

pub live_with : (s : Schedule) (ps : List Place) → all_live ps ≡ true → all_live (with_record place_number (Some s) ps) ≡ true
live_with s [] e = refl
live_with s (None ∷ ps) e = absurd (false≢true e)
live_with s (Some r ∷ ps) e = let h = live_with s ps e in grind (arith, nat_tests)

pub live_without : (n : ℕ) (ps : List Place) → all_live ps ≡ true → all_live (without place_number n ps) ≡ true
live_without n [] e = refl
live_without n (None ∷ ps) e = absurd (false≢true e)
live_without n (Some r ∷ ps) e = let h = live_without n ps e in grind (arith, nat_tests)

pub length_bonds : (ps : List Place) → all_live ps ≡ true → length (bonds_of (kept ps)) ≡ length ps
length_bonds ps e = length-map (kept ps) (λ (x : Scheduled). x.terms) ∙ length_kept ps e

-- the same of the bonds
pub has_bond : (n : ℕ) (ps : List Place) → all_live ps ≡ true → has place_number n ps ≡ has number n (bonds_of (kept ps))
has_bond n ps e = has_kept n ps e ∙ sym (has_map (λ (x : Scheduled). x.terms) number n (kept ps))

pub bonds_with : (s : Schedule) (ps : List Place) → all_live ps ≡ true
    → bonds_of (kept (with_record place_number (Some s) ps)) ≡ with_record number (seen_schedule s).terms (bonds_of (kept ps))
bonds_with s ps e = ap bonds_of (kept_with s ps e) ∙ map_with (λ (x : Scheduled). x.terms) number (seen_schedule s) (kept ps)

pub bonds_without : (n : ℕ) (ps : List Place) → all_live ps ≡ true → bonds_of (kept (without place_number n ps)) ≡ without number n (bonds_of (kept ps))
bonds_without n ps e = ap bonds_of (kept_without n ps e) ∙ map_without (λ (x : Scheduled). x.terms) number n (kept ps)

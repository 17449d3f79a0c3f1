-- The changes of all bonds written into a list, bond after bond.
use Rattle.std.proofs.Common.{◌≡◌, ℕ, ◌+◌, ◌-◌, ◌<◌, ◌≤◌, List, [], ◌++◌, map, length, take, drop, get_or, Option, Some, sym, ap, ◌∙◌, append-nil, subst, arith}
use Rattle.std.proofs.lemmas.List.{length-map, map-append, take-map, drop-map, drop_all, take_all, length-drop}
use borrow.Rule.Slice.PartMut.{put_mid, mid_of}
use Rattle.generation.specs.declared.schedule.Schedule.{Schedule}
use Rattle.generation.specs.Schedules.{seen_schedule}
use Rattle.changes.specs.declared.change.Change.{Change}
use Rattle.changes.specs.Changes.{Altered, changes_in, seen_place, written, written_count}
use Rattle.changes.proofs.Writings.{Written, run_counted, write_run, when_fits}
use Rattle.sheet.specs.KeptBonds.{Place, kept}
use Rattle.sheet.specs.Plans.{both}
use Rattle.sheet.specs.Notices.{changes}
use Rattle.sheet.proofs.PairedPlaces.{from_place, no_place_left, pair_turn}

-- places that a list has from n on
tail_places : (list : List (Option Change)) (n : ℕ) → n ≤ length list → map seen_place (mid_of n (length list - n) list) ≡ drop n (map seen_place list)
tail_places list n h = ap (map seen_place) (take_all (length list - n) (drop n list) (omega (arith, length-drop n list))) ∙ sym (drop-map seen_place n list)

-- a list whose places from n on were written
put_places : (list tail : List (Option Change)) (n : ℕ) → n ≤ length list → map seen_place (put_mid n (length list - n) list tail) ≡ take n (map seen_place list) ++ map seen_place tail
put_places list tail n h =
    ap (λ (rest : List (Option Change)). map seen_place (take n list ++ (tail ++ rest))) (drop_all (length list - n) (drop n list) (omega (arith, length-drop n list)))
    ∙ ap (λ (rest : List (Option Change)). map seen_place (take n list ++ rest)) (append-nil tail)
    ∙ map-append seen_place (take n list) tail ∙ ap (λ (front : List (Option Altered)). front ++ map seen_place tail) (sym (take-map seen_place n list))

module _ (before after : ℕ → ℕ) (old new : List Place) (places list : List (Option Change)) (n i : ℕ) where
  -- the bonds in the first i places are done
  abbrev pub BondsWritten : Type 0
  BondsWritten = Written (map Some (changes before after (kept old) (kept new))) (map Some (from_place before after old new i)) (map seen_place places) (map seen_place list) n

  -- all bonds are
  pub all_pairs_done : length old ≤ i → length (changes before after (kept old) (kept new)) ≤ length places → BondsWritten
      → (map seen_place list ≡ written (map Some (changes before after (kept old) (kept new))) (map seen_place places))
      × (Some n ≡ written_count (map Some (changes before after (kept old) (kept new))) (map seen_place places))
  all_pairs_done l fits so_far =
      let none : ◌≡◌ {A = List (Option Altered)} (map Some (from_place before after old new i)) [] = ap (map Some) (no_place_left before after old new i l) in
      when_fits _ _ (map seen_place list) n (omega (arith, length-map (changes before after (kept old) (kept new)) Some, length-map places seen_place))
      (subst (λ (rest : List (Option Altered)). Written (map Some (changes before after (kept old) (kept new))) rest (map seen_place places) (map seen_place list) n) none so_far)

  module _ (l : i < length old) (m : i < length new) (p q : Place) (e : (d : Place) → p ≡ get_or old i d) (f : (d : Place) → q ≡ get_or new i d)
      (s t : Schedule) (two : both p q ≡ Some (s, t)) (so_far : BondsWritten) (fits : n ≤ length list) where
    abbrev chunk : List (Option Altered)
    chunk = map Some (changes_in before after (seen_schedule s) (seen_schedule t))

    abbrev later : List (Option Altered)
    later = map Some (from_place before after old new (i + 1))

    split : map Some (from_place before after old new i) ≡ chunk ++ later
    split = ap (map Some) (pair_turn before after old new i l m p q e f s t two) ∙ map-append Some (changes_in before after (seen_schedule s) (seen_schedule t)) (from_place before after old new (i + 1))

    -- the changes of the bond in place i fit
    pub pair_fits : written_count chunk (map seen_place (mid_of n (length list - n) list)) ≡ Some (length chunk)
    pair_fits = ap (written_count chunk) (tail_places list n fits) ∙ run_counted _ _ _ chunk later _ n split so_far

    -- and are written
    pair_written : (tail : List (Option Change)) → map seen_place tail ≡ written chunk (map seen_place (mid_of n (length list - n) list))
        → Written (map Some (changes before after (kept old) (kept new))) later (map seen_place places) (map seen_place (put_mid n (length list - n) list tail)) (n + length chunk)
    pair_written tail w =
        write_run _ _ _ chunk later _ n split so_far (map seen_place tail) _ (w ∙ ap (written chunk) (tail_places list n fits)) (put_places list tail n fits)

    -- with as many as the call says
    pub pair_done : (tail : List (Option Change)) (count : ℕ) → Some count ≡ written_count chunk (map seen_place (mid_of n (length list - n) list))
        → map seen_place tail ≡ written chunk (map seen_place (mid_of n (length list - n) list))
        → Written (map Some (changes before after (kept old) (kept new))) later (map seen_place places) (map seen_place (put_mid n (length list - n) list tail)) (n + count)
    pair_done tail count c w = let many = c ∙ pair_fits in let same : count ≡ length chunk = cc in rw same (pair_written tail w)

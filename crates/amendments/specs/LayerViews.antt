-- What an amendment layer of the code means, by the codes of the calendar below it.
use Rattle.std.specs.Prelude.{ℕ, List, take}
use Rattle.amendments.specs.declared.entered.Entered.{Entered}
use Rattle.amendments.specs.declared.layer.AmendmentLayer.{AmendmentLayer}
use Rattle.amendments.specs.Meanings.{Meaning}
use Rattle.amendments.specs.Layers.{layer_meaning}

module _ {K : Type 0} where
  -- its entries, by rising day
  abbrev pub entries_of : AmendmentLayer K → List Entered
  entries_of s = take s.count s.entries

  -- its whole meaning
  abbrev pub layer_now : (K → ℕ → ℕ) → AmendmentLayer K → Meaning
  layer_now codes s = layer_meaning (codes s.under) (entries_of s) s.layer.number

-- One more day tried, in the run of days.
use Rattle.std.proofs.Common.{◌≡◌, ℕ, ◌+◌, ◌<◌, ◌≤◌, min, max, List, length, get_or, drop, sym, ◌∙◌}
use Rattle.std.proofs.lemmas.Bool.{eq-eqb, ne_eqb}
use Rattle.std.proofs.lemmas.List.{drop_more, drop_all}
use Rattle.generation.specs.Rolls.{Span, up_to, lowest, highest, span}

-- the days of a run from place k on, around a span
abbrev pub from_place : Span → ℕ → List ℕ → ℕ → Span
from_place s at ds k = span s.low s.high (up_to at (drop k ds))

-- a span with a day in it
abbrev pub around : Span → ℕ → Span
around s d = record { low = min s.low d; high = max s.high d }

module _ (s t : Span) (at : ℕ) (ds : List ℕ) (k : ℕ) where
  -- the day d at k is the one to stop at
  pub at_end : (d : ℕ) → k < length ds → d ≡ get_or ds k 0 → d ≡ at → t ≡ around s d → t ≡ from_place s at ds k
  unfolding up_to lowest highest
  at_end d h e n p = rw (p, e) (let f = eq-eqb (get_or ds k 0) at (sym e ∙ n) in rw (drop_more ds k 0 h, f))

  -- it is not
  pub at_next : (d : ℕ) → k < length ds → d ≡ get_or ds k 0 → (d ≡ at → ⊥) → t ≡ around s d → from_place t at ds (k + 1) ≡ from_place s at ds k
  unfolding up_to lowest highest
  at_next d h e n p = rw (p, e) (let f = ne_eqb (get_or ds k 0) at (λ z. n (e ∙ z)) in rw (drop_more ds k 0 h, f))

-- there is none left
pub run_out : (s : Span) (at : ℕ) (ds : List ℕ) (k : ℕ) → length ds ≤ k → s ≡ from_place s at ds k
unfolding up_to lowest highest
run_out s at ds k h = rw (drop_all k ds h)

-- Codes of four bits by shift and mask.
use Rattle.std.proofs.Common.{◌≡◌, ℕ, ◌+◌, ◌-◌, ◌*◌, ◌/◌, ◌%◌, ◌^◌, ◌<◌, ◌≤◌, eqb, ◌≢◌, List, length, get_or, set, sym, ap, ◌∙◌, subst, inl, inr, arith}
use mathlib.Core.Path.{fun_ext}
use lib.Bits.{bit_and, bit_or}
use Rattle.std.proofs.lemmas.Nat.{pow_pos, pow-add, shr-shr, field_of, and_mask, or_shifted, shr_below, shl_whole, one_shl, shr_high, mod_low, mod_below, mod-pow-add}
use Rattle.std.proofs.lemmas.List.{get_or-set_same, get_or-set_other}
use Rattle.std.proofs.lemmas.Bool.{cases_order, cases_eq, cond_both, eqb-true, eqb-false}
use Rattle.amendments.specs.Meanings.{recoded}
use Rattle.day_cache.specs.Nibbles.{nibble, with_nibble, kept_code}

-- what a word has below a place fits there
low_fits : (w p : ℕ) → w % 2 ^ (4 * p) < 2 ^ (4 * p)
low_fits w p = mod_below w (2 ^ (4 * p)) (pow_pos (4 * p))

-- what a word with another code has from that place up
from_place : (w p c : ℕ) → with_nibble w p c / 2 ^ (4 * p) ≡ w / 2 ^ (4 * p) / 2 ^ 4 * 2 ^ 4 + c
from_place w p c = shr_high (w / 2 ^ (4 * p) / 2 ^ 4 * 2 ^ 4 + c) (4 * p) (w % 2 ^ (4 * p)) (low_fits w p)

-- the place itself has the code
nibble_same : (w p c : ℕ) → c < 16 → nibble (with_nibble w p c) p ≡ c
nibble_same w p c h = ap (λ n. n % 16) (from_place w p c) ∙ mod_low (w / 2 ^ (4 * p) / 2 ^ 4) 4 c h

-- a word shifted to a higher place, by way of a lower one
by_lower : (n p q t : ℕ) → 4 * q ≡ 4 * p + 4 + t → n / 2 ^ (4 * q) ≡ n / 2 ^ (4 * p) / 2 ^ 4 / 2 ^ t
by_lower n p q t e = ap (λ k. n / 2 ^ k) e ∙ sym (shr-shr n (4 * p + 4) t) ∙ ap (λ m. m / 2 ^ t) (sym (shr-shr n (4 * p) 4))

-- a place above keeps its code
nibble_above : (w p q c : ℕ) → c < 16 → p < q → nibble (with_nibble w p c) q ≡ nibble w q
nibble_above w p q c h lt =
    let t : ℕ = 4 * q - 4 * p - 4 in
    let e : 4 * q ≡ 4 * p + 4 + t = omega arith in
    let up = ap (λ m. m / 2 ^ 4) (from_place w p c) ∙ shr_high (w / 2 ^ (4 * p) / 2 ^ 4) 4 c h in
    ap (λ n. n % 16) (by_lower (with_nibble w p c) p q t e ∙ ap (λ m. m / 2 ^ t) up ∙ sym (by_lower w p q t e))

-- the code at a place is that of what the word has below a higher one
in_lower : (n p q t : ℕ) → 4 * p ≡ (t + 4) + 4 * q → n % 2 ^ (4 * p) / 2 ^ (4 * q) % 2 ^ 4 ≡ nibble n q
in_lower n p q t e =
    let m : ℕ = n / 2 ^ (4 * q) in
    ap (λ k. n % 2 ^ k / 2 ^ (4 * q) % 2 ^ 4) e
    ∙ ap (λ x. x % 2 ^ 4) (field_of n (t + 4) (4 * q) ∙ mod-pow-add m t 4)
    ∙ mod_low (m / 2 ^ 4 % 2 ^ t) 4 (m % 2 ^ 4) (mod_below m (2 ^ 4) (pow_pos 4))

-- a place below keeps its code
nibble_below : (w p q c : ℕ) → q < p → nibble (with_nibble w p c) q ≡ nibble w q
nibble_below w p q c lt =
    let t : ℕ = 4 * p - 4 * q - 4 in
    let e : 4 * p ≡ (t + 4) + 4 * q = omega arith in
    let low = mod_low (w / 2 ^ (4 * p) / 2 ^ 4 * 2 ^ 4 + c) (4 * p) (w % 2 ^ (4 * p)) (low_fits w p) in
    sym (in_lower (with_nibble w p c) p q t e) ∙ ap (λ m. m / 2 ^ (4 * q) % 2 ^ 4) low ∙ in_lower w p q t e

-- every other place keeps its code
nibble_other : (w p q c : ℕ) → c < 16 → q ≢ p → nibble (with_nibble w p c) q ≡ nibble w q
nibble_other w p q c h ne =
    elim (cases_order q p) [
      | inl e ↦ absurd (ne e)
      | inr o ↦ elim o [ inl lt ↦ nibble_below w p q c lt | inr gt ↦ nibble_above w p q c h gt ]
    ]

-- what the shifts and masks come to
pub packed : (w p c : ℕ) → w < 2 ^ 64 → p < 16 → c ≤ 15
    → bit_or ((bit_or ((w / 2 ^ (4 * p) / 2 ^ 4 * 2 ^ 4) % 2 ^ 64) c * 2 ^ (4 * p)) % 2 ^ 64) (bit_and w ((1 * 2 ^ (4 * p)) % 2 ^ 64 - 1)) ≡ with_nibble w p c
packed w p c hw hp hc =
    let j : ℕ = 60 - 4 * p in
    let a : ℕ = w / 2 ^ (4 * p) / 2 ^ 4 in
    let e : 64 ≡ j + (4 * p + 4) = omega arith in
    let fits : a < 2 ^ j =
    subst (λ n. n < 2 ^ j) (sym (shr-shr w (4 * p) 4)) (shr_below w j (4 * p + 4) (subst (λ k. w < 2 ^ k) e hw)) in
    let top : a * 2 ^ 4 + c < 2 ^ (j + 4) = let q = pow-add 2 j 4 in omega arith in
    let high = shl_whole a j 4 64 fits (omega arith) in
    let joined = or_shifted a 4 c (omega arith) in
    let moved = shl_whole (a * 2 ^ 4 + c) (j + 4) (4 * p) 64 top (omega arith) in
    let one = one_shl (4 * p) 64 (omega arith) in
    let low = and_mask w (4 * p) in
    let whole = or_shifted (a * 2 ^ 4 + c) (4 * p) (w % 2 ^ (4 * p)) (low_fits w p) in
    cc

-- a row of words with one code replaced
pub kept_set : (ws : List ℕ) (k c v : ℕ) → k / 16 < length ws → c ≤ 15 → v ≡ with_nibble (get_or ws (k / 16) 0) (k % 16) c
    → kept_code (set ws (k / 16) v) ≡ recoded (kept_code ws) k c
kept_set ws k c v l h e =
    let w : ℕ = get_or ws (k / 16) 0 in
    let here : get_or (set ws (k / 16) v) (k / 16) 0 ≡ with_nibble w (k % 16) c = get_or-set_same ws (k / 16) v 0 l ∙ e in
    fun_ext
    (λ m.
    cond_both (eqb m k) c (kept_code ws m) (λ x. kept_code (set ws (k / 16) v) m ≡ x)
    (λ same. ap (kept_code (set ws (k / 16) v)) (eqb-true m k same) ∙ ap (λ x. nibble x (k % 16)) here ∙ nibble_same w (k % 16) c (omega arith))
    (λ apart.
    let ne = eqb-false m k apart in
    elim (cases_eq (m / 16) (k / 16)) [
      | inl row ↦
          ap (λ i. nibble (get_or (set ws (k / 16) v) i 0) (m % 16)) row
          ∙ ap (λ x. nibble x (m % 16)) here
          ∙ nibble_other w (k % 16) (m % 16) c (omega arith) (λ q. ne (omega arith))
          ∙ ap (λ i. nibble (get_or ws i 0) (m % 16)) (sym row)
      | inr other ↦ ap (λ x. nibble x (m % 16)) (get_or-set_other ws (k / 16) (m / 16) v 0 other)
    ]))

-- A numeral is read as n exactly if it is what is written of n.
use Rattle.std.proofs.Common.{◌≡◌, ℕ, ◌+◌, ◌*◌, pow-suc, add-one, ◌^◌, ◌<◌, ◌≤◌, true, List, length, get_or, Some, decimal, Option, sym, ap, ◌∙◌, subst, arith, rules}
use native.Mathlib.Nat.{pow-le-pow_right}
use Rattle.std.specs.Str.{all_ascii_digits}
use Rattle.std.proofs.lemmas.Str.Parse.{IsNumeralModel, numerals_by_fold, digits_value_short}
use Rattle.std.proofs.lemmas.Fmt.{digits_decimal, digits_value-decimal, length-decimal-le, decimal_nonempty, first_decimal, decimal-digits_value, decimal_digit}
use Rattle.std.proofs.lemmas.Bool.Decides.{nat_tests}
use Rattle.notation.specs.Readers.{Exactly}
use Rattle.notation.proofs.Options.{when_some}
use Rattle.notation.specs.Numerals.{read_on, digits_of, number_of, plain, Numeral}

pub own : IsNumeralModel (λ ds. all_ascii_digits ds ≡ true) (read_on 0)
own = numerals_by_fold _ (search rules) read_on (search rules)

pub digits_some : (bs : List ℕ) (n : ℕ) → digits_of bs ≡ Some n → (all_ascii_digits bs ≡ true) × (read_on 0 bs ≡ n)
digits_some bs n e = let p = when_some (all_ascii_digits bs) (Some (read_on 0 bs)) n e in (p.0, let s = p.1 in cc)

read_back : (bs : List ℕ) (n : ℕ) → number_of bs ≡ Some n → Numeral bs n
read_back bs n e =
    let outer = when_some (plain bs) (digits_of bs) n e in
    let t = outer.0 in
    let inner = digits_some bs n outer.1 in
    let some : 0 < length bs = grind (arith, nat_tests) in
    let few : length bs ≤ 12 = grind (arith, nat_tests) in
    let plain : get_or bs 0 0 ≡ 48 → length bs ≡ 1 = grind (arith, nat_tests) in
    let small = digits_value_short own bs 12 inner.0 few in
    (sym (decimal-digits_value own bs inner.0 some plain (omega arith)) ∙ ap decimal inner.1, subst (λ k. k < 10 ^ 12) inner.1 small)

written : (n : ℕ) → n < 10 ^ 12 → number_of (decimal n) ≡ Some n
written n h =
    let fits : n < 2 ^ 64 = omega arith in
    let all = digits_decimal own n fits in
    let v = digits_value-decimal own n fits in
    let some = decimal_nonempty n fits in
    let few = length-decimal-le 12 n (omega arith) h fits in
    let zero : n ≡ 0 → length (decimal n) ≡ 1 = λ z. ap (λ k. length (decimal k)) z ∙ ap length (decimal_digit 0 (omega arith)) in
    let more : 0 < n → 48 < get_or (decimal n) 0 0 = λ z. first_decimal n z fits in
    grind (arith, nat_tests)

-- ten times as much with one digit more
pub tenfold : (v i : ℕ) → v < 10 ^ i → i < 12 → (v * 10 + 9 < 10 ^ (i + 1)) × (10 ^ (i + 1) ≤ 10 ^ 12)
tenfold v i small few = (rw (add-one, pow-suc) (omega arith), pow-le-pow_right {n = 10} (omega arith) {i = i + 1} {j = 12} (omega arith))

pub number_exactly : (bs : List ℕ) (r : Option ℕ) → r ≡ number_of bs → (n : ℕ) → Exactly (r ≡ Some n) (Numeral bs n)
number_exactly bs r e n = (λ s. read_back bs n (sym e ∙ s), λ s. e ∙ ap number_of s.0 ∙ written n s.1)

-- Calendars of entries that are added one at a time.
use Rattle.std.specs.Prelude.{ℕ, Bool, false, cond, not, ◌&&◌, ◌||◌, List, [], ◌∷◌, ◌++◌, length, take, is_ok, Ok, Result, nat_lt}
use Rattle.faults.specs.Refusals.{Refusal, refuse}
use Rattle.calendars.specs.declared.rule.Rule.{Rule}
use Rattle.calendars.specs.Codes.{closing}

-- what a rule holds: its entries in the order in which they came, and its layer
pub record Held (E : Type 0) : Type 0 where
  pub entries : List E
  pub layer : ℕ

-- what a rule of the code holds
abbrev pub held : {E : Type 0} {n : ℕ} → Rule E n → Held E
held r = record { entries = take r.count r.entries; layer = r.layer.number }

-- the test holds of some entry
abbrev pub any : {E : Type 0} → (E → Bool) → List E → Bool
any test [] = false
any test (e ∷ es) = test e || any test es

-- a day is closed if some entry closes it
abbrev pub rule_code : {E : Type 0} → (E → ℕ → Bool) → List E → ℕ → ℕ → ℕ
rule_code closes entries layer d = closing (any (λ e. closes e d) entries) layer

-- an entry is refused with 41 where the rule holds as many as it can, then with 42 if it is not possible or clashes
abbrev pub add_answer : {E : Type 0} → ℕ → (E → Bool) → (E → E → Bool) → List E → E → Result (Unit {0}) Refusal
add_answer most possible clashes entries e =
    cond (nat_lt (length entries) most)
    (cond (possible e && not (any (λ held. clashes held e) entries)) (Ok tt) (refuse 42 []))
    (refuse 41 [])

-- a refused entry leaves the rule as it was
abbrev pub after_add : {E : Type 0} → Result (Unit {0}) Refusal → Held E → E → Held E
after_add answer rule e = cond (is_ok answer) (record { entries = rule.entries ++ (e ∷ []); layer = rule.layer }) rule

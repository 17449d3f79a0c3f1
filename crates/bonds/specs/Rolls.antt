-- The unadjusted rolls that a bond's terms give.
use Rattle.std.specs.Prelude.{ℕ, zero, suc, ◌+◌, ◌-◌, ◌*◌, Bool, true, false, cond, not, ◌&&◌, List, [], ◌∷◌, ◌++◌, length, take, drop, Some, None, Ok, Option, Result, ◌==◌, nat_le, nat_lt, slice_index}
use Rattle.faults.specs.Refusals.{Refusal, refuse}
use Rattle.dates.specs.Years.{place_of}
use Rattle.dates.specs.Months.{month_no, len_of, cut_to}
use Rattle.conventions.specs.declared.unadjusted.Unadjusted.{Unadjusted}
use Rattle.bonds.specs.declared.stub.Stub.{Stub}
use Rattle.bonds.specs.declared.stub.Stub.TheVariants.{ShortFirst, LongFirst, ShortLast, LongLast}
use Rattle.bonds.specs.declared.terms.Terms.{Terms}

-- with a first stub periods are counted back from maturity, with a last stub forward from the effective day
abbrev pub counts_back : Stub → Bool
counts_back ShortFirst = true
counts_back LongFirst = true
counts_back ShortLast = false
counts_back LongLast = false

-- so for terms
abbrev pub is_back : Terms → Bool
is_back t = counts_back t.stub

-- the count's start
abbrev pub anchor : Terms → ℕ
anchor t = cond (is_back t) t.maturity t.effective

-- the end that the count runs to
abbrev pub other_end : Terms → ℕ
other_end t = cond (is_back t) t.effective t.maturity

-- the anchor is the last day of its month
abbrev pub ends_month : Terms → Bool
ends_month t = place_of (anchor t) == len_of (month_no (anchor t)) - 1

-- the place of the regular dates in their months, from 0: the anchor's, but with the mark and an anchor on its month's
-- last day the last that any month has
unfoldable pub place : Terms → ℕ
place t = cond (t.month_end && ends_month t) 30 (place_of (anchor t))

-- the month k periods from the anchor's; months count on past 2199, and back only to January 1900, which lies before
-- every effective day
abbrev pub month_at : Terms → ℕ → ℕ
month_at t k = cond (is_back t) (month_no (anchor t) - t.months * k) (month_no (anchor t) + t.months * k)

-- the anchor shifted by k periods, its place cut to the month's length
unfoldable pub shifted : Terms → ℕ → ℕ
shifted t k = cut_to (month_at t k) (place t)

-- strictly between effective and maturity
abbrev pub between : Terms → ℕ → Bool
between t d = nat_lt t.effective d && nat_lt d t.maturity

-- a farther date joins the nearer ones, rising: before them if counted back, else after them
abbrev pub joined : Bool → ℕ → List ℕ → List ℕ
joined true d ds = d ∷ ds
joined false d ds = ds ++ (d ∷ [])

-- of the dates f 1 to f n those that pass, rising
unfoldable pub passing : Bool → (ℕ → Bool) → (ℕ → ℕ) → ℕ → List ℕ
passing back ok f zero = []
passing back ok f (suc n) = cond (ok (f (suc n))) (joined back (f (suc n)) (passing back ok f n)) (passing back ok f n)

-- the regular dates: the shifts that lie between; 3600 periods lead out of every calendar
unfoldable pub regular : Terms → List ℕ
regular t = passing (is_back t) (between t) (shifted t) 3600

-- a period is left over, unless the next shift meets the other end
abbrev pub has_stub : Terms → Bool
has_stub t = not (shifted t (suc (length (regular t))) == other_end t)

-- a long first stub takes the first regular date away, a long last one the last
abbrev pub less : Stub → List ℕ → List ℕ
less ShortFirst ds = ds
less LongFirst ds = drop 1 ds
less ShortLast ds = ds
less LongLast ds = take (length ds - 1) ds

-- the regular dates that are rolls
unfoldable pub kept : Terms → List ℕ
kept t = cond (has_stub t) (less t.stub (regular t)) (regular t)

-- effective, the regular dates that are kept, maturity
unfoldable pub rolls : Terms → List ℕ
rolls t = t.effective ∷ (kept t ++ (t.maturity ∷ []))

-- terms that give more than 100 rolls are refused with 5
abbrev pub rolls_answer : Terms → Result Terms Refusal
rolls_answer t = cond (nat_le (length (rolls t)) 100) (Ok t) (refuse 5 (t.number ∷ []))

-- the i-th roll, from 0, if there is one
abbrev pub roll_at : Terms → ℕ → Option Unadjusted
roll_at t i = cond (nat_lt i (length (rolls t))) (Some (record { 0 = slice_index (rolls t) i })) None

-- how many good days before the i-th roll its fixing lies; the last roll has none
abbrev pub lag_of : Terms → ℕ → ℕ
lag_of t i = cond (nat_lt (suc i) (length (rolls t))) t.lag 0

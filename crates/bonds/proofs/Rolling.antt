-- How many rolls there are, and which is the i-th.
use Rattle.std.specs.Option.{MatchOption, unwrap_or, option_eq}
use Rattle.std.proofs.Common.{Option, eqb, min, ◌≡◌, ℕ, zero, suc, ◌+◌, ◌-◌, ◌<◌, ◌≤◌, Bool, true, false, cond, not, List, [], ◌∷◌, length, get_or, Some, None, sym, refl, ap, ◌∙◌, inl, inr, arith}
use Rattle.std.proofs.lemmas.Option.{cond_some}
use Rattle.std.proofs.lemmas.Bool.Decides.{nat_tests}
use Rattle.std.proofs.lemmas.Bool.{cases_lt, cases_Bool, both_ways}
use Rattle.std.proofs.lemmas.List.{length_push, get_or_push, get_or_append_left}
use Rattle.bonds.specs.declared.stub.Stub.{Stub}
use Rattle.bonds.specs.declared.stub.Stub.TheVariants.{ShortFirst, LongFirst, ShortLast, LongLast}
use Rattle.bonds.specs.declared.terms.Terms.{Terms}
use Rattle.bonds.specs.Rolls.{counts_back, is_back, other_end, shifted, between, regular, has_stub, less, kept, rolls}
use Rattle.bonds.specs.Reached.{reached, shift_answer}
use Rattle.bonds.specs.RollLaws.{Rising, Spanning, Complete}
use Rattle.bonds.proofs.Passing.{whole, whole_length, back_at, forth_at, less_first, less_last, Edge, edge, edge_passing}
use Rattle.bonds.proofs.Shifting.{fails_on, forth_rises, back_falls, outside, none_outside, far_out}

abbrev pub count : Terms → ℕ
count t = length (regular t)

abbrev Ends : Terms → ℕ → Type 0
Ends t c = Edge (between t) (shifted t) 3600 c

ends : (t : Terms) → (c : ℕ) × Ends t c
ends t = edge (between t) (shifted t) (fails_on t) 3600

regular_whole : (t : Terms) (c : ℕ) → Ends t c → regular t ≡ whole (is_back t) (shifted t) c
unfolding regular
regular_whole t c e = edge_passing (is_back t) (between t) (shifted t) 3600 c e

counted : (t : Terms) (c : ℕ) → Ends t c → count t ≡ c
counted t c e = ap length (regular_whole t c e) ∙ whole_length (is_back t) (shifted t) c

-- the edge is at the count
at_count : (t : Terms) → Ends t (count t)
at_count t = rw (counted t (ends t).0 (ends t).1) (ends t).1

regular_all : (t : Terms) → regular t ≡ whole (is_back t) (shifted t) (count t)
regular_all t = regular_whole t (count t) (at_count t)

-- past the count no shift lies between, and up to it each is one of the regular dates
beyond : (t : Terms) (k : ℕ) → count t < k → between t (shifted t k) ≡ false
beyond t k h = elim (cases_lt 3600 k) [ inl l ↦ far_out t k l | inr g ↦ (at_count t).above k h g ]

among : (t : Terms) (k : ℕ) → 1 ≤ k → k ≤ count t → (i : ℕ) × (i < count t) × (get_or (regular t) i 0 ≡ shifted t k)
among t k a h =
    elim (cases_Bool (is_back t)) [
      | inl b ↦
          (let e : count t - (count t - k) ≡ k = omega arith in
          (count t - k, omega arith, at (count t - k) ∙ back_at (is_back t) (shifted t) (count t) (count t - k) b (omega arith) ∙ ap (shifted t) e))
      | inr b ↦
          (let e : suc (k - 1) ≡ k = omega arith in
          (k - 1, omega arith, at (k - 1) ∙ forth_at (is_back t) (shifted t) (count t) (k - 1) b (omega arith) ∙ ap (shifted t) e))
    ]
  where
    at : (i : ℕ) → get_or (regular t) i 0 ≡ get_or (whole (is_back t) (shifted t) (count t)) i 0
    at i = ap (λ (l : List ℕ). get_or l i 0) (regular_all t)

pub complete : (t : Terms) → Complete t
complete t k a b = elim (cases_lt (count t) k) [ inl l ↦ absurd (both_ways _ (beyond t k l) b) | inr g ↦ among t k a g ]

-- the shifts by 1 to n periods lie between
abbrev pub Passes : Terms → ℕ → Type 0
Passes t n = (k : ℕ) → 0 ≤ k → k < n → between t (shifted t (k + 1)) ≡ true

-- then they are not more than the count, and if the next fails, they are all
not_more : (t : Terms) (n : ℕ) → Passes t n → n ≤ count t
not_more t n h =
    elim (cases_lt (count t) n) [
      | inl lt ↦ absurd (both_ways _ (beyond t (n - 1 + 1) (omega arith)) (h (n - 1) (omega arith) (omega arith)))
      | inr ge ↦ ge
    ]

stops : (t : Terms) (n : ℕ) → Passes t n → between t (shifted t (n + 1)) ≡ false → n ≡ count t
stops t n h f =
    elim (cases_lt n (count t)) [
      | inl lt ↦ absurd (both_ways _ f ((at_count t).below (n + 1) (omega arith) (omega arith)))
      | inr ge ↦ omega (arith, not_more t n h)
    ]

-- so the count, up to m, is how many come before the first that fails
pub count_first : (t : Terms) (m : ℕ) (r : Option ℕ)
    → MatchOption r (Passes t m) (λ i. (0 ≤ i) × (i < m) × (between t (shifted t (i + 1)) ≡ false) × Passes t i) → unwrap_or r m ≡ min (count t) m
count_first t m None h = omega (arith, not_more t m h)
count_first t m (Some i) h = omega (arith, h.1, stops t i h.3 h.2)

-- there is a stub unless the next shift, if that is a day of the calendars, is the other end
pub stub_is : (t : Terms) (n : ℕ) (o : Option ℕ) → n ≡ count t → o ≡ shift_answer t (n + 1) → not (option_eq eqb o (Some (other_end t))) ≡ has_stub t
stub_is t n None e h = let s : n + 1 ≡ suc (count t) = omega arith in sym (ap not (rw s at (none_outside t (n + 1) h).end))
stub_is t n (Some x) e h = let s : n + 1 ≡ suc (count t) = omega arith in let p = rw s at (cond_some _ _ _ (sym h)).1 in rw (← p)

-- how many of n regular dates are left by a stub
abbrev pub left : Stub → ℕ → ℕ
left ShortFirst n = n
left LongFirst n = n - 1
left ShortLast n = n
left LongLast n = n - 1

abbrev pub inner : Terms → ℕ
inner t = cond (has_stub t) (left t.stub (count t)) (count t)

less_whole : (s : Stub) (f : ℕ → ℕ) (n : ℕ) → less s (whole (counts_back s) f n) ≡ whole (counts_back s) f (left s n)
less_whole ShortFirst f n = refl
less_whole LongFirst f n = less_first f n
less_whole ShortLast f n = refl
less_whole LongLast f n = rw (whole_length false f n) (less_last f n)

kept_is : (t : Terms) → kept t ≡ whole (is_back t) (shifted t) (inner t)
unfolding kept
kept_is t = go (has_stub t)
  where
    go : (s : Bool) → cond s (less t.stub (regular t)) (regular t) ≡ whole (is_back t) (shifted t) (cond s (left t.stub (count t)) (count t))
    go true = ap (less t.stub) (regular_all t) ∙ less_whole t.stub (shifted t) (count t)
    go false = regular_all t

pub kept_length : (t : Terms) → length (kept t) ≡ inner t
kept_length t = ap length (kept_is t) ∙ whole_length (is_back t) (shifted t) (inner t)

left_near : (s : Stub) (n : ℕ) → (left s n ≤ n) × (n ≤ left s n + 1)
left_near ShortFirst n = (omega arith, omega arith)
left_near LongFirst n = (omega arith, omega arith)
left_near ShortLast n = (omega arith, omega arith)
left_near LongLast n = (omega arith, omega arith)

-- all regular dates are kept but at most one
pub kept_near : (t : Terms) → (length (kept t) ≤ count t) × (count t ≤ length (kept t) + 1)
kept_near t = rw (kept_length t) (go (has_stub t))
  where
    go : (s : Bool) → (cond s (left t.stub (count t)) (count t) ≤ count t) × (count t ≤ cond s (left t.stub (count t)) (count t) + 1)
    go true = left_near t.stub (count t)
    go false = (omega arith, omega arith)

-- what is kept lies between
pub kept_between : (t : Terms) (k : ℕ) → 1 ≤ k → k ≤ length (kept t) → between t (shifted t k) ≡ true
kept_between t k a b = (at_count t).below k a (omega (arith, (kept_near t).0))

-- the i-th, by the number of periods
kept_back : (t : Terms) (i : ℕ) → is_back t ≡ true → i < length (kept t) → get_or (kept t) i 0 ≡ shifted t (length (kept t) - i)
kept_back t i b h =
    ap (λ (l : List ℕ). get_or l i 0) (kept_is t)
    ∙ back_at (is_back t) (shifted t) (inner t) i b (omega (arith, kept_length t))
    ∙ ap (λ (n : ℕ). shifted t (n - i)) (sym (kept_length t))

kept_forth : (t : Terms) (i : ℕ) → is_back t ≡ false → i < length (kept t) → get_or (kept t) i 0 ≡ shifted t (suc i)
kept_forth t i b h = ap (λ (l : List ℕ). get_or l i 0) (kept_is t) ∙ forth_at (is_back t) (shifted t) (inner t) i b (omega (arith, kept_length t))

pub rolls_length : (t : Terms) → length (rolls t) ≡ length (kept t) + 2
unfolding rolls
rolls_length t = omega (arith, length_push (kept t) t.maturity)

pub roll_first : (t : Terms) → get_or (rolls t) 0 0 ≡ t.effective
unfolding rolls
roll_first t = refl

roll_inner : (t : Terms) (i : ℕ) → i < length (kept t) → get_or (rolls t) (suc i) 0 ≡ get_or (kept t) i 0
unfolding rolls
roll_inner t i h = get_or_append_left (kept t) (t.maturity ∷ []) 0 i h

roll_last : (t : Terms) (i : ℕ) → i ≡ length (kept t) → get_or (rolls t) (suc i) 0 ≡ t.maturity
unfolding rolls
roll_last t i h = get_or_push (kept t) t.maturity 0 i (sym h)

pub roll_end : (t : Terms) (i : ℕ) → i ≡ length (kept t) + 1 → get_or (rolls t) i 0 ≡ t.maturity
roll_end t i h = let e : i ≡ suc (length (kept t)) = omega arith in rw e (roll_last t (length (kept t)) refl)

-- how many periods from the anchor a roll between the first and the last lies
abbrev pub periods : Terms → ℕ → ℕ
periods t i = cond (is_back t) (length (kept t) + 1 - i) i

pub roll_shift : (t : Terms) (i : ℕ) → 1 ≤ i → i ≤ length (kept t) → get_or (rolls t) i 0 ≡ shifted t (periods t i)
roll_shift t zero a h = absurd (let z : ⊥ = omega arith in z)
roll_shift t (suc i) a h = roll_inner t i h ∙ go (is_back t) refl
  where
    go : (b : Bool) → is_back t ≡ b → get_or (kept t) i 0 ≡ shifted t (cond b (length (kept t) + 1 - suc i) (suc i))
    go true e = let s : length (kept t) + 1 - suc i ≡ length (kept t) - i = omega arith in rw s (kept_back t i e h)
    go false e = kept_forth t i e h

pub periods_in : (t : Terms) (i : ℕ) → 1 ≤ i → i ≤ length (kept t) → (1 ≤ periods t i) × (periods t i ≤ length (kept t))
periods_in t i a h = elim (is_back t) as (λ b. (1 ≤ cond b (length (kept t) + 1 - i) i) × (cond b (length (kept t) + 1 - i) i ≤ length (kept t))) [ true ↦ (omega arith, omega arith) | false ↦ (omega arith, omega arith) ]

pub roll_reached : (t : Terms) (i : ℕ) → 1 ≤ i → i ≤ length (kept t) → shift_answer t (periods t i) ≡ Some (get_or (rolls t) i 0)
roll_reached t i a h =
    let p = periods_in t i a h in
    let b = kept_between t (periods t i) p.0 p.1 in
    rw (roll_shift t i a h)
    (elim (cases_Bool (reached t (periods t i))) [
      | inl r ↦ rw r
      | inr r ↦ absurd (both_ways _ (outside t (periods t i) r).between b)
    ])

-- a roll between the first and the last lies strictly between them
pub roll_between : (t : Terms) (i : ℕ) → 1 ≤ i → i ≤ length (kept t) → (t.effective < get_or (rolls t) i 0) × (get_or (rolls t) i 0 < t.maturity)
roll_between t i a h =
    let p = periods_in t i a h in
    let b = kept_between t (periods t i) p.0 p.1 in
    rw (roll_shift t i a h) (grind (arith, nat_tests))

-- and before the next, if that is not the last
inner_rises : (t : Terms) (i : ℕ) → 1 ≤ i → suc i ≤ length (kept t) → get_or (rolls t) i 0 < get_or (rolls t) (suc i) 0
inner_rises t i a h =
    let n = length (kept t) in
    let l = roll_between t i a (omega arith) in
    let r = roll_shift t i a (omega arith) in
    let s = roll_shift t (suc i) (omega arith) h in
    elim (cases_Bool (is_back t)) [
      | inl b ↦
          elim (back_falls t (n + 1 - suc i) (n + 1 - i) b (omega arith))
          [ inl x ↦ grind arith | inr x ↦ grind (arith, t.early) ]
      | inr b ↦ (let x = forth_rises t i (suc i) b (omega arith) in grind arith)
    ]

pub rising : (t : Terms) → Rising t
rising t zero h =
    elim (cases_lt 0 (length (kept t))) [
      | inl l ↦ rw (roll_first t) (roll_between t 1 (omega arith) l).0
      | inr g ↦ rw (roll_first t, roll_end t 1 (omega arith)) t.rising
    ]
rising t (suc i) h =
    elim (cases_lt (suc i) (length (kept t))) [
      | inl l ↦ inner_rises t (suc i) (omega arith) l
      | inr g ↦
          (let e = rolls_length t in
          rw (roll_end t (suc (suc i)) (omega arith)) (roll_between t (suc i) (omega arith) (omega arith)).1)
    ]

within : (t : Terms) (i : ℕ) → i < length (rolls t) → (t.effective ≤ get_or (rolls t) i 0) × (get_or (rolls t) i 0 ≤ t.maturity)
within t zero h = rw (roll_first t) (omega arith, omega (arith, t.rising))
within t (suc i) h =
    let e = rolls_length t in
    elim (cases_lt i (length (kept t))) [
      | inl l ↦ (let b = roll_between t (suc i) (omega arith) l in (omega (arith, b.0), omega (arith, b.1)))
      | inr g ↦ rw (roll_end t (suc i) (omega arith)) (omega (arith, t.rising), omega arith)
    ]

pub spanning : (t : Terms) → Spanning t
spanning t =
    record {
      first = roll_first t;
      last = roll_end t (length (rolls t) - 1) (omega (arith, rolls_length t));
      low = λ i h. (within t i h).0;
      high = λ i h. (within t i h).1;
    }

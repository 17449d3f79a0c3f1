-- A line is read as a call exactly if it is that call's spelling.
use Rattle.std.proofs.Common.{◌≡◌, ℕ, List, [], ◌∷◌, Some, Option, option_map, sym, refl, ap, ap₂, ◌∙◌, append-nil}
use Rattle.dates.specs.declared.day.Day.{Day}
use Rattle.bonds.specs.declared.bond.Bond.{Bond}
use Rattle.notices.specs.declared.notice.Notice.{Notice}
use Rattle.notices.specs.declared.notice.Notice.TheVariants.{Declare, Cancel, Move, Withdraw}
use Rattle.sheet.specs.declared.call.Call.{Call}
use Rattle.sheet.specs.declared.call.Call.TheVariants.{Enter, Retire, Amend}
use Rattle.notation.specs.Readers.{and_then, Exactly}
use Rattle.notation.specs.Entries.{number_at, date_at, bond_at, retired_at, one_date_at, move_at, notice_by, entry_of}
use Rattle.notation.specs.Spellings.{number_field, date_field, bond_fields, notice_spelling, spelling, Short, Datable, TypeableBond, TypeableNotice, Typeable}
use Rattle.notation.proofs.Options.{map_some, letter_some}
use Rattle.notation.proofs.FieldSpelling.{by_number, number_over, by_date, date_over, by_end}

-- the last field of a line
last_number : {B : Type 0} (k : ℕ × List ℕ → Option B) (n : ℕ) → Short n → and_then (number_at (number_field n)) k ≡ k (n, [])
last_number k n f = ap (λ s. and_then (number_at s) k) (sym (append-nil (number_field n))) ∙ number_over k n [] f refl

last_date : {B : Type 0} (k : Day × List ℕ → Option B) (d : Day) → Datable d → and_then (date_at (date_field d)) k ≡ k (d, [])
last_date k d f = ap (λ s. and_then (date_at s) k) (sym (append-nil (date_field d))) ∙ date_over k d [] f refl

-- what is spelled is read
bond_over : (b : Bond) → TypeableBond b → bond_at (bond_fields b) ≡ Some b
bond_over b h =
    number_over _ b.number _ h.0 refl
    ∙ date_over _ b.effective _ h.1 refl
    ∙ date_over _ b.maturity _ h.2 refl
    ∙ number_over _ b.months _ h.3 refl
    ∙ number_over _ b.stub _ h.4 refl
    ∙ number_over _ b.mark _ h.5 refl
    ∙ number_over _ b.lag _ h.6 refl
    ∙ number_over _ b.face _ h.7 refl
    ∙ last_number _ b.rate h.8

call_over : (c : Call) → Typeable c → entry_of (spelling c) ≡ Some c
call_over (Enter b) h = ap (option_map Enter) (bond_over b h)
call_over (Retire n) h = ap (option_map Retire) (last_number _ n h)
call_over (Amend (Declare d)) h = ap (λ o. option_map Amend (option_map Declare o)) (last_date _ d h)
call_over (Amend (Cancel d)) h = ap (λ o. option_map Amend (option_map Cancel o)) (last_date _ d h)
call_over (Amend (Move from to)) h = ap (option_map Amend) (date_over _ from _ h.0 refl ∙ last_date _ to h.1)
call_over (Amend (Withdraw d)) h = ap (λ o. option_map Amend (option_map Withdraw o)) (last_date _ d h)

-- what is read is so spelled
some_bond : (s : List ℕ) (b : Bond) → bond_at s ≡ Some b → (s ≡ bond_fields b) × TypeableBond b
some_bond s b e =
    by_number s _ b e (λ number s1 e1 f1 k1.
    by_date s1 _ b k1 (λ effective s2 e2 f2 k2.
    by_date s2 _ b k2 (λ maturity s3 e3 f3 k3.
    by_number s3 _ b k3 (λ months s4 e4 f4 k4.
    by_number s4 _ b k4 (λ stub s5 e5 f5 k5.
    by_number s5 _ b k5 (λ mark s6 e6 f6 k6.
    by_number s6 _ b k6 (λ lag s7 e7 f7 k7.
    by_number s7 _ b k7 (λ face s8 e8 f8 k8.
    by_number s8 _ b k8 (λ rate s9 e9 f9 k9.
    by_end s8 (number_field rate) s9 _ b (λ b. (s ≡ bond_fields b) × TypeableBond b) e9 k9 (λ last.
    (rw (e1, e2, e3, e4, e5, e6, e7, e8, last), (f1, f2, f3, f4, f5, f6, f7, f8, f9))))))))))))

some_retired : (s : List ℕ) (n : ℕ) → retired_at s ≡ Some n → (s ≡ number_field n) × Short n
some_retired s n e =
    by_number s _ n e (λ number s1 e1 f1 k1.
    by_end s _ s1 _ n (λ n. (s ≡ number_field n) × Short n) e1 k1 (λ all. (all, f1)))

some_one_date : (s : List ℕ) (d : Day) → one_date_at s ≡ Some d → (s ≡ date_field d) × Datable d
some_one_date s d e =
    by_date s _ d e (λ day s1 e1 f1 k1.
    by_end s _ s1 _ d (λ d. (s ≡ date_field d) × Datable d) e1 k1 (λ all. (all, f1)))

-- after M (77)
some_move : (s : List ℕ) (n : Notice) → move_at s ≡ Some n → (77 ∷ s ≡ notice_spelling n) × TypeableNotice n
some_move s n e =
    by_date s _ n e (λ from s1 e1 f1 k1.
    by_date s1 _ n k1 (λ to s2 e2 f2 k2.
    by_end s1 (date_field to) s2 _ n (λ n. (77 ∷ s ≡ notice_spelling n) × TypeableNotice n) e2 k2 (λ last. (rw (e1, last), (f1, f2)))))

-- equal letters before equal rests
after : {a b : ℕ} {s t : List ℕ} {F : Type 0} → a ≡ b → (s ≡ t) × F → (a ∷ s ≡ b ∷ t) × F
after l r = (ap₂ ◌∷◌ l r.0, r.1)

some_notice : (letter : ℕ) (s : List ℕ) (n : Notice) → notice_by letter s ≡ Some n → (letter ∷ s ≡ notice_spelling n) × TypeableNotice n
some_notice letter s n =
    let P = λ (m : Notice). (letter ∷ s ≡ notice_spelling m) × TypeableNotice m in
    letter_some letter 68 _ _ n (λ l. map_some Declare _ n P (λ d e. after l (some_one_date s d e)))
    (letter_some letter 67 _ _ n (λ l. map_some Cancel _ n P (λ d e. after l (some_one_date s d e)))
    (letter_some letter 77 _ _ n (λ l e. let r = some_move s n e in (ap (λ a. a ∷ s) l ∙ r.0, r.1))
    (letter_some letter 87 _ _ n (λ l. map_some Withdraw _ n P (λ d e. after l (some_one_date s d e)))
    (λ e. absurd (cc)))))

some_call : (s : List ℕ) (c : Call) → entry_of s ≡ Some c → (s ≡ spelling c) × Typeable c
some_call [] c e = absurd (cc)
some_call (letter ∷ s) c e =
    let P = λ (c : Call). (letter ∷ s ≡ spelling c) × Typeable c in
    letter_some letter 66 _ _ c (λ l. map_some Enter _ c P (λ b e. after l (some_bond s b e)))
    (letter_some letter 88 _ _ c (λ l. map_some Retire _ c P (λ n e. after l (some_retired s n e)))
    (map_some Amend _ c P (λ n. some_notice letter s n)))
    e

pub call_exactly : (line : List ℕ) (r : Option Call) → r ≡ entry_of line → (c : Call) → Exactly (r ≡ Some c) ((line ≡ spelling c) × Typeable c)
call_exactly line r e c = (λ s. some_call line c (sym e ∙ s), λ s. e ∙ ap entry_of s.0 ∙ call_over c s.1)

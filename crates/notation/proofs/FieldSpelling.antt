-- One field at a time: what it is read as, and what is left.
use Rattle.std.proofs.Common.{◌≡◌, ℕ, ◌+◌, ◌%◌, ◌^◌, ◌<◌, All, eqb, List, [], ◌∷◌, ◌++◌, length, decimal, Some, Option, refl, ap, ap₂, subst, ◌∙◌, append-nil, arith}
use Rattle.std.proofs.Math.Seq.{take-append_seam, drop-append_seam}
use Rattle.std.proofs.lemmas.List.{take-append-drop}
use Rattle.std.proofs.lemmas.List.Elements.{All-nil, All-cons, All-head, All-tail, All-append, All-push, All-replicate}
use Rattle.std.proofs.lemmas.Fmt.{decimal_by_steps}
use Rattle.std.proofs.lemmas.Bool.Decides.{nat_tests}
use Rattle.dates.specs.Civil.{civil_at}
use Rattle.dates.specs.DateText.{zero_padded, date_text}
use Rattle.dates.specs.declared.civil_date.CivilDate.{CivilDate}
use Rattle.dates.specs.declared.day.Day.{Day}
use Rattle.dates.proofs.Facts.{parts, place_high}
use Rattle.notation.specs.Readers.{before, and_then, Exactly}
use Rattle.notation.specs.Numerals.{number_of}
use Rattle.notation.specs.DateTexts.{date_of}
use Rattle.notation.specs.Entries.{field_at, read_at, number_at, date_at, at_end}
use Rattle.notation.specs.Spellings.{number_field, date_field, Short, Datable}
use Rattle.notation.proofs.Spelling.{number_exactly}
use Rattle.notation.proofs.DateSpelling.{date_exactly}
use Rattle.notation.proofs.Options.{when_some, some_and, and_some}

-- a byte above a space, as every byte of a number and of a date is
abbrev Above : ℕ → Type 0
Above b = 32 < b

above_decimal : (n : ℕ) → n < 2 ^ 64 → All Above (decimal n)
above_decimal =
    decimal_by_steps (λ _ ds. All Above ds) (λ n h. All-cons Above (48 + n) [] (omega arith) (All-nil Above))
    (λ n ds h a. All-push Above ds (48 + n % 10) a (omega arith))

above_padded : (width n : ℕ) → n < 2 ^ 64 → All Above (zero_padded width n)
unfolding zero_padded
above_padded width n h = All-append Above _ (decimal n) (All-replicate Above _ 48 (omega arith)) (above_decimal n h)

-- the date of a day, as it is printed
abbrev date_bytes : Day → List ℕ
date_bytes d = date_text (civil_at d.0)

above_date : (d : Day) → Datable d → All Above (date_bytes d)
above_date d h =
    let p = parts d.0 h in
    let day = place_high d.0 h in
    let c : CivilDate = civil_at d.0 in
    let hyphen = λ (bs : List ℕ). All-cons Above 45 bs (omega arith) in
    All-append Above _ _ (above_padded 4 c.year (omega arith))
    (hyphen _ (All-append Above _ _ (above_padded 2 c.month (omega arith)) (hyphen _ (above_padded 2 c.day (omega arith)))))

-- the bytes of a text stand before the first space, if what follows is empty or begins with one
before_over : (text rest : List ℕ) → All Above text → before 32 rest ≡ 0 → before 32 (text ++ rest) ≡ length text
before_over [] rest a e = e
before_over (b ∷ bs) rest a e =
    let h : 32 < b = All-head Above b bs a in
    let more : before 32 (bs ++ rest) ≡ length bs = before_over bs rest (All-tail Above b bs a) e in
    grind (arith, nat_tests)

-- so a field is cut at the end of its text
field_over : (text rest : List ℕ) → All Above text → before 32 rest ≡ 0 → field_at (32 ∷ (text ++ rest)) ≡ Some (text, rest)
field_over text rest a e = rw (before_over text rest a e, take-append_seam text rest, drop-append_seam text rest)

-- and what is cut is what stood there
field_some : (s : List ℕ) (f : List ℕ × List ℕ) → field_at s ≡ Some f → s ≡ 32 ∷ (f.0 ++ f.1)
field_some [] f e = absurd (cc)
field_some (b ∷ bs) f e =
    let w = when_some (eqb b 32) _ f e in
    let same : b ≡ 32 = grind (arith, nat_tests, w.0) in
    let parts = take-append-drop (before 32 bs) bs in
    let cut = w.1 in
    cc

-- p reads each x that can be typed from its text alone
abbrev Reads : {A : Type 0} → (List ℕ → Option A) → (A → List ℕ) → (A → Type 0) → Type 0
Reads {A} p text Fit = (bs : List ℕ) (x : A) → Exactly (p bs ≡ Some x) ((bs ≡ text x) × Fit x)

module _ {A : Type 0} (p : List ℕ → Option A) (text : A → List ℕ) (Fit : A → Type 0) (law : Reads p text Fit) where
  -- a field that is read is a space and the text of what is read
  read_some : (s : List ℕ) (r : A × List ℕ) → read_at p s ≡ Some r → (s ≡ (32 ∷ text r.0) ++ r.1) × Fit r.0
  read_some s r e =
      let f = some_and (field_at s) _ r e in
      let x = some_and (p f.0.0) _ r f.2 in
      let made = x.2 in
      let same : x.0 ≡ r.0 = cc in
      let left : f.0.1 ≡ r.1 = cc in
      let t = (law f.0.0 x.0).0 x.1 in
      let all = field_some s f.0 f.1 in
      (all ∙ ap (◌∷◌ 32) (ap₂ ◌++◌ (t.0 ∙ ap text same) left), subst Fit same t.1)

  -- what is read, and what then is left, for the rest of a proof
  pub by_field : {B P : Type 0} (s : List ℕ) (k : A × List ℕ → Option B) (y : B) → and_then (read_at p s) k ≡ Some y
      → ((x : A) (rest : List ℕ) → s ≡ (32 ∷ text x) ++ rest → Fit x → k (x, rest) ≡ Some y → P) → P
  by_field s k y e go = let r = some_and (read_at p s) k y e in let t = read_some s r.0 r.1 in go r.0.0 r.0.1 t.0 t.1 r.2

  -- a field that can be typed is read
  pub read_over : {B : Type 0} (k : A × List ℕ → Option B) (x : A) (rest : List ℕ) → All Above (text x) → Fit x → before 32 rest ≡ 0
      → and_then (read_at p ((32 ∷ text x) ++ rest)) k ≡ k (x, rest)
  read_over k x rest a f e =
      and_some k (and_some (λ g. and_then (p g.0) (λ y. Some (y, g.1))) (field_over (text x) rest a e)
      ∙ and_some (λ y. Some (y, rest)) ((law (text x) x).1 (refl, f)))

-- a number
number_reads : Reads number_of decimal Short
number_reads bs n = number_exactly bs _ refl n

pub by_number : {B P : Type 0} (s : List ℕ) (k : ℕ × List ℕ → Option B) (y : B) → and_then (number_at s) k ≡ Some y
    → ((n : ℕ) (rest : List ℕ) → s ≡ number_field n ++ rest → Short n → k (n, rest) ≡ Some y → P) → P
by_number = by_field number_of decimal Short number_reads

pub number_over : {B : Type 0} (k : ℕ × List ℕ → Option B) (n : ℕ) (rest : List ℕ) → Short n → before 32 rest ≡ 0
    → and_then (number_at (number_field n ++ rest)) k ≡ k (n, rest)
number_over k n rest f = read_over number_of decimal Short number_reads k n rest (above_decimal n (omega arith)) f

-- a date
date_reads : Reads date_of date_bytes Datable
date_reads bs d = let x = date_exactly bs _ refl d in (λ e. let r = x.0 e in (r.1, r.0), λ r. x.1 (r.1, r.0))

pub by_date : {B P : Type 0} (s : List ℕ) (k : Day × List ℕ → Option B) (y : B) → and_then (date_at s) k ≡ Some y
    → ((d : Day) (rest : List ℕ) → s ≡ date_field d ++ rest → Datable d → k (d, rest) ≡ Some y → P) → P
by_date = by_field date_of date_bytes Datable date_reads

pub date_over : {B : Type 0} (k : Day × List ℕ → Option B) (d : Day) (rest : List ℕ) → Datable d → before 32 rest ≡ 0
    → and_then (date_at (date_field d ++ rest)) k ≡ k (d, rest)
date_over k d rest f = read_over date_of date_bytes Datable date_reads k d rest (above_date d f) f

-- the last field, with nothing behind it
pub by_end : {A : Type 0} (s field rest : List ℕ) (x y : A) (P : A → Type 0)
    → s ≡ field ++ rest → at_end rest x ≡ Some y → (s ≡ field → P x) → P y
by_end s field [] x y P all e go = let same : x ≡ y = cc in subst P same (go (all ∙ append-nil field))
by_end s field (b ∷ bs) x y P all e go =
    let w = when_some (eqb (length (b ∷ bs)) 0) (Some x) y e in
    let none : length (b ∷ bs) ≡ 0 = grind (arith, nat_tests, w.0) in
    absurd (omega arith)

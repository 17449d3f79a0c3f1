-- The form of an entry.
use Rattle.std.specs.Prelude.{ℕ, cond, List, [], ◌∷◌, length, take, drop, Some, None, Ok, Option, Result, ◌==◌}
use Rattle.std.specs.Option.{option_map, ok_or}
use Rattle.faults.specs.Refusals.{Refusal, naming, refuse}
use Rattle.dates.specs.declared.day.Day.{Day}
use Rattle.bonds.specs.declared.bond.Bond.{Bond}
use Rattle.notices.specs.declared.notice.Notice.{Notice}
use Rattle.notices.specs.declared.notice.Notice.TheVariants.{Declare, Cancel, Move, Withdraw}
use Rattle.sheet.specs.declared.call.Call.{Call}
use Rattle.sheet.specs.declared.call.Call.TheVariants.{Enter, Retire, Amend}
use Rattle.notation.specs.InputLines.{Part, remark, entry, too_long}
use Rattle.notation.specs.Readers.{before, when, and_then}
use Rattle.notation.specs.Numerals.{number_of}
use Rattle.notation.specs.DateTexts.{date_of}

-- one space (32), the bytes up to the next, and the rest
abbrev pub field_at : List ℕ → Option (List ℕ × List ℕ)
field_at [] = None
field_at (b ∷ bs) = when (b == 32) (Some (take (before 32 bs) bs, drop (before 32 bs) bs))

-- a field that p reads, and the rest
abbrev pub read_at : {A : Type 0} → (List ℕ → Option A) → List ℕ → Option (A × List ℕ)
read_at p s = and_then (field_at s) (λ f. and_then (p f.0) (λ x. Some (x, f.1)))

-- a number, and the rest
abbrev pub number_at : List ℕ → Option (ℕ × List ℕ)
number_at s = read_at number_of s

-- a date, and the rest
abbrev pub date_at : List ℕ → Option (Day × List ℕ)
date_at s = read_at date_of s

-- the value, if nothing is left
abbrev pub at_end : {A : Type 0} → List ℕ → A → Option A
at_end s x = when (length s == 0) (Some x)

-- number, effective and maturity dates, months, stub, mark, lag, face and rate
abbrev pub bond_at : List ℕ → Option Bond
bond_at s =
    and_then (number_at s) (λ number.
    and_then (date_at number.1) (λ effective.
    and_then (date_at effective.1) (λ maturity.
    and_then (number_at maturity.1) (λ months.
    and_then (number_at months.1) (λ stub.
    and_then (number_at stub.1) (λ mark.
    and_then (number_at mark.1) (λ lag.
    and_then (number_at lag.1) (λ face.
    and_then (number_at face.1) (λ rate.
    at_end rate.1 (record {
      number = number.0;
      effective = effective.0;
      maturity = maturity.0;
      months = months.0;
      stub = stub.0;
      mark = mark.0;
      lag = lag.0;
      face = face.0;
      rate = rate.0;
    }))))))))))

-- a bond's number
abbrev pub retired_at : List ℕ → Option ℕ
retired_at s = and_then (number_at s) (λ number. at_end number.1 number.0)

-- one date
abbrev pub one_date_at : List ℕ → Option Day
one_date_at s = and_then (date_at s) (λ day. at_end day.1 day.0)

-- the date to open and the date to close
abbrev pub move_at : List ℕ → Option Notice
move_at s = and_then (date_at s) (λ from. and_then (date_at from.1) (λ to. at_end to.1 (Move from.0 to.0)))

-- of a notice: D (68) declares, C (67) cancels, M (77) moves, W (87) withdraws
abbrev pub notice_by : ℕ → List ℕ → Option Notice
notice_by letter s =
    cond (letter == 68) (option_map Declare (one_date_at s))
    (cond (letter == 67) (option_map Cancel (one_date_at s)) (cond (letter == 77) (move_at s) (cond (letter == 87) (option_map Withdraw (one_date_at s)) None)))

-- the letter decides: B (66) enters a bond, X (88) retires one, another is a notice's
abbrev pub entry_by : ℕ → List ℕ → Option Call
entry_by letter s =
    cond (letter == 66) (option_map Enter (bond_at s))
    (cond (letter == 88) (option_map Retire (retired_at s)) (option_map Amend (notice_by letter s)))

-- a letter, and what it wants
abbrev pub entry_of : List ℕ → Option Call
entry_of [] = None
entry_of (letter ∷ s) = entry_by letter s

-- what a line asks for: a remark nothing; a line too long or of no entry's form is refused with 50, and named
abbrev pub line_answer : Part → Result (Option Call) Refusal
line_answer (remark n text) = Ok None
line_answer (entry n text) = ok_or (option_map Some (entry_of text)) (naming 50 (n ∷ []))
line_answer (too_long n) = refuse 50 (n ∷ [])

-- How each call is spelled.
use Rattle.std.specs.Prelude.{ℕ, ◌^◌, ◌<◌, ◌≤◌, List, ◌∷◌, ◌++◌, decimal}
use Rattle.dates.specs.Civil.{civil_at}
use Rattle.dates.specs.DateText.{date_text}
use Rattle.dates.specs.declared.day.Day.{Day}
use Rattle.bonds.specs.declared.bond.Bond.{Bond}
use Rattle.notices.specs.declared.notice.Notice.{Notice}
use Rattle.notices.specs.declared.notice.Notice.TheVariants.{Declare, Cancel, Move, Withdraw}
use Rattle.sheet.specs.declared.call.Call.{Call}
use Rattle.sheet.specs.declared.call.Call.TheVariants.{Enter, Retire, Amend}

-- a space (32) and a number's digits
abbrev pub number_field : ℕ → List ℕ
number_field n = 32 ∷ decimal n

-- a space and a day's date, as it is printed
abbrev pub date_field : Day → List ℕ
date_field d = 32 ∷ date_text (civil_at d.0)

-- a bond's nine fields
abbrev pub bond_fields : Bond → List ℕ
bond_fields b =
    number_field b.number
    ++ (date_field b.effective
    ++ (date_field b.maturity
    ++ (number_field b.months
    ++ (number_field b.stub
    ++ (number_field b.mark
    ++ (number_field b.lag
    ++ (number_field b.face
    ++ number_field b.rate)))))))

-- a notice: D (68) declares, C (67) cancels, M (77) moves, W (87) withdraws
abbrev pub notice_spelling : Notice → List ℕ
notice_spelling (Declare d) = 68 ∷ date_field d
notice_spelling (Cancel d) = 67 ∷ date_field d
notice_spelling (Move from to) = 77 ∷ (date_field from ++ date_field to)
notice_spelling (Withdraw d) = 87 ∷ date_field d

-- a call: B (66) enters a bond, X (88) retires one
abbrev pub spelling : Call → List ℕ
spelling (Enter b) = 66 ∷ bond_fields b
spelling (Retire n) = 88 ∷ number_field n
spelling (Amend n) = notice_spelling n

-- a number of at most twelve digits
abbrev pub Short : ℕ → Type 0
Short n = n < 10 ^ 12

-- a day up to 31 December 2199
abbrev pub Datable : Day → Type 0
Datable d = d.0 ≤ 109572

-- each of a bond's fields can be typed
abbrev pub TypeableBond : Bond → Type 0
TypeableBond b =
    Short b.number × Datable b.effective × Datable b.maturity × Short b.months × Short b.stub × Short b.mark × Short b.lag × Short b.face × Short b.rate

-- each day of a notice can be typed
abbrev pub TypeableNotice : Notice → Type 0
TypeableNotice (Declare d) = Datable d
TypeableNotice (Cancel d) = Datable d
TypeableNotice (Move from to) = Datable from × Datable to
TypeableNotice (Withdraw d) = Datable d

-- each number and day of a call can be typed
abbrev pub Typeable : Call → Type 0
Typeable (Enter b) = TypeableBond b
Typeable (Retire n) = Short n
Typeable (Amend n) = TypeableNotice n

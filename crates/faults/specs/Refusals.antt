-- What a refusal tells: its number, and the numbers that it names.
use Rattle.std.specs.Prelude.{ℕ, List, [], ◌∷◌, Ok, Err, Result}
use Rattle.faults.specs.declared.origins.CalendarFault.{CalendarFault}
use Rattle.faults.specs.declared.origins.CalendarFault.TheVariants.{DayAbove, NotEntered, EntriesFull, RuleFull, BadEntry, NotRising}
use Rattle.faults.specs.declared.origins.GenerationFault.{GenerationFault}
use Rattle.faults.specs.declared.origins.GenerationFault.TheVariants.{NoGoodDay, NoFixing, NotTried}
use Rattle.faults.specs.declared.origins.TextFault.{TextFault}
use Rattle.faults.specs.declared.origins.TextFault.TheVariants.{BadLine, TooLong}
use Rattle.faults.specs.declared.origins.SheetFault.{SheetFault}
use Rattle.faults.specs.declared.origins.SheetFault.TheVariants.{OutOfRange, BadDays, Live, NotLive, ManyRolls, SheetFull, NoPayment, SameDay, WrongState, ShortList}
use Rattle.faults.specs.declared.origins.Fault.{Fault}
use Rattle.faults.specs.declared.origins.Fault.TheVariants.{Calendar, Generation, Text, Sheet}

pub record Refusal : Type 0 where
  pub number : ℕ
  pub names : List ℕ

-- a refusal of this number that names these
abbrev pub naming : ℕ → List ℕ → Refusal
naming n ns = record { number = n; names = ns }

-- calendars: 10 and 13 name the day, the 42 of a list its place
abbrev pub calendar_refusal : CalendarFault → Refusal
calendar_refusal (DayAbove day) = naming 10 (day ∷ [])
calendar_refusal (NotEntered day) = naming 13 (day ∷ [])
calendar_refusal EntriesFull = naming 14 []
calendar_refusal RuleFull = naming 41 []
calendar_refusal BadEntry = naming 42 []
calendar_refusal (NotRising place) = naming 42 (place ∷ [])

-- generation: 20 and 21 name bond, roll and unadjusted day
abbrev pub generation_refusal : GenerationFault → Refusal
generation_refusal (NoGoodDay at) = naming 20 (at.bond ∷ at.roll ∷ at.day ∷ [])
generation_refusal (NoFixing at) = naming 21 (at.bond ∷ at.roll ∷ at.day ∷ [])
generation_refusal NotTried = naming 45 []

-- text: 50 names the line
abbrev pub text_refusal : TextFault → Refusal
text_refusal (BadLine line) = naming 50 (line ∷ [])
text_refusal TooLong = naming 51 []

-- sheets: 1 to 7 name the bond's number, 12 the day
abbrev pub sheet_refusal : SheetFault → Refusal
sheet_refusal (OutOfRange bond) = naming 1 (bond ∷ [])
sheet_refusal (BadDays bond) = naming 2 (bond ∷ [])
sheet_refusal (Live bond) = naming 3 (bond ∷ [])
sheet_refusal (NotLive bond) = naming 4 (bond ∷ [])
sheet_refusal (ManyRolls bond) = naming 5 (bond ∷ [])
sheet_refusal (SheetFull bond) = naming 6 (bond ∷ [])
sheet_refusal (NoPayment bond) = naming 7 (bond ∷ [])
sheet_refusal SameDay = naming 11 []
sheet_refusal (WrongState day) = naming 12 (day ∷ [])
sheet_refusal ShortList = naming 30 []

-- any refusal tells what it told at its origin
abbrev pub refusal : Fault → Refusal
refusal (Calendar fault) = calendar_refusal fault
refusal (Generation fault) = generation_refusal fault
refusal (Text fault) = text_refusal fault
refusal (Sheet fault) = sheet_refusal fault

-- an answer whose refusal is told by t
abbrev pub told : {A E : Type 0} → (E → Refusal) → Result A E → Result A Refusal
told t (Ok a) = Ok a
told t (Err e) = Err (t e)

-- the answer: refused with this number, naming these
abbrev pub refuse : {A : Type 0} → ℕ → List ℕ → Result A Refusal
refuse n ns = Err (naming n ns)

-- Entering and retiring a bond.
use Rattle.std.specs.Prelude.{ℕ, ◌+◌, Bool, cond, ◌&&◌, List, [], ◌∷◌, length, Ok, Err, Result, nat_le, nat_lt}
use Rattle.faults.specs.Refusals.{Refusal, refuse, naming}
use Rattle.tables.specs.Tables.{has, with_record, without}
use Rattle.bonds.specs.declared.bond.Bond.{Bond}
use Rattle.bonds.specs.declared.terms.Terms.{Terms}
use Rattle.bonds.specs.Rolls.{rolls}
use Rattle.bonds.specs.TermsOf.{terms_answer}
use Rattle.generation.specs.Schedules.{Scheduled, schedule_answer}
use Rattle.sheet.specs.FreshSheets.{Fresh, After, refused, number, good_days, roll_total}

-- there is room for one more bond of so many rolls
abbrev pub has_room : List Terms → ℕ → Bool
has_room bonds n = nat_lt (length bonds) 32 && nat_le (roll_total bonds + n) 400

-- beside the live bonds: 3 if the number is live, 5 above 100 rolls, 6 without room
unfoldable pub admitted : List Terms → Terms → Result Terms Refusal
admitted bonds t =
    cond (has number (number t) bonds) (refuse 3 (number t ∷ []))
    (cond (nat_le (length (rolls t)) 100) (cond (has_room bonds (length (rolls t))) (Ok t) (refuse 6 (number t ∷ []))) (refuse 5 (number t ∷ [])))

-- before that, 1 for a field out of its range, 2 for the days
abbrev pub admitted_by : List Terms → Result Terms Refusal → Result Terms Refusal
admitted_by bonds (Err e) = Err e
admitted_by bonds (Ok t) = admitted bonds t

-- the bond becomes live, if its schedule was granted; the answer is the count of its rolls
abbrev pub added : Fresh → Result Scheduled Refusal → After ℕ
added s (Err e) = refused s e
added s (Ok x) =
    record { sheet = record { bonds = with_record number x.terms s.bonds; calendar = s.calendar }; answer = Ok (length x.days) }

-- after admission 20 or 21 of the first failing roll
abbrev pub entered_by : (ℕ → List ℕ) → Fresh → Result Terms Refusal → After ℕ
entered_by tries s (Err e) = refused s e
entered_by tries s (Ok t) = added s (schedule_answer (good_days s.calendar) tries t)

-- entering a bond
abbrev pub entered : (ℕ → List ℕ) → Fresh → Bond → After ℕ
entered tries s b = entered_by tries s (admitted_by s.bonds (terms_answer b))

-- retiring the bond of a number: 4 if it is not live
unfoldable pub retired : Fresh → ℕ → After (Unit {0})
retired s n =
    cond (has number n s.bonds) (record { sheet = record { bonds = without number n s.bonds; calendar = s.calendar }; answer = Ok tt })
    (refused s (naming 4 (n ∷ [])))

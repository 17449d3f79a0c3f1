-- Reading a payment.
use Rattle.std.specs.Prelude.{ℕ, cond, List, [], ◌∷◌, Some, None, Ok, Err, Option, Result, ◌==◌}
use Rattle.faults.specs.Refusals.{Refusal, refuse}
use Rattle.generation.specs.Schedules.{Scheduled}
use Rattle.generation.specs.Payments.{Due, payment_at}
use Rattle.sheet.specs.FreshSheets.{Fresh, number, schedules}

-- the schedule of the bond of a number
unfoldable pub schedule_numbered : ℕ → List Scheduled → Option Scheduled
schedule_numbered n [] = None
schedule_numbered n (x ∷ xs) = cond (number x.terms == n) (Some x) (schedule_numbered n xs)

-- a payment that was read; 7 if there is none of that number
abbrev pub paid : ℕ → Option Due → Result Due Refusal
paid n None = refuse 7 (n ∷ [])
paid n (Some p) = Ok p

-- payment k of a schedule; 4 if the bond is not live
abbrev pub payment_in : ℕ → ℕ → Option Scheduled → Result Due Refusal
payment_in n k None = refuse 4 (n ∷ [])
payment_in n k (Some x) = paid n (payment_at x k)

-- payment k, from 1, of the bond of number n, among schedules
abbrev pub payment_among : List Scheduled → ℕ → ℕ → Result Due Refusal
payment_among xs n k = payment_in n k (schedule_numbered n xs)

-- the same where schedules may be refused
abbrev pub payment_by : Result (List Scheduled) Refusal → ℕ → ℕ → Result Due Refusal
payment_by (Err e) n k = Err e
payment_by (Ok xs) n k = payment_among xs n k

-- payment k of the bond of number n, with all schedules generated afresh
abbrev pub payment_answer : (ℕ → List ℕ) → Fresh → ℕ → ℕ → Result Due Refusal
payment_answer tries s n k = payment_by (schedules tries s.calendar s.bonds) n k

-- No payment of a bond is dated before one with a lower number.
use Rattle.std.proofs.Common.{◌≡◌, ℕ, ◌<◌, ◌≤◌, Bool, List, length, Some, Ok, sym, ap, ◌∙◌, arith}
use Rattle.std.proofs.lemmas.Bool.{lt-ltb}
use Rattle.conventions.specs.Tries.{Served, first_good}
use Rattle.bonds.specs.Rolls.{rolls}
use Rattle.generation.specs.BondRolls.{generated}
use Rattle.generation.specs.Payments.{Due, payment_at}
use Rattle.generation.specs.Schedules.{Scheduled, roll_in, schedule_answer}
use Rattle.generation.proofs.FirstFault.{first_fault}
use Rattle.generation.proofs.Ordering.{never_backward}
use Rattle.changes.proofs.Reading.{stands}
use Rattle.sheet.specs.FreshSheets.{Fresh, good_days}
use Rattle.sheet.specs.EveryUse.{DatesInOrder}
use Rattle.sheet.proofs.FreshStanding.{Standing}
use Rattle.sheet.proofs.StandingSchedules.{found_fresh, read_from, afresh, all_fresh, among_all}

-- whatever days are good, a later day never comes to an earlier one
abbrev pub NeverEarlier : (ℕ → List ℕ) → Type 0
NeverEarlier tries = (good : ℕ → Bool) (u v a b : ℕ) → Served u → Served v → u ≤ v → first_good good (tries u) ≡ Some a
    → first_good good (tries v) ≡ Some b → a ≤ b

module _ (tries : ℕ → List ℕ) (order : NeverEarlier tries) where
  module _ (good : ℕ → Bool) (x : Scheduled) (fresh : schedule_answer good tries x.terms ≡ Ok x) where
    -- a roll of a schedule that was granted was generated
    roll_generated : (i : ℕ) → i < length x.days → generated good tries x.terms i ≡ Some (Ok (roll_in x i))
    roll_generated i l =
        let g = (first_fault good tries x.terms).granted x fresh in
        let inside : i < length (rolls x.terms) = omega (arith, g.0) in
        rw (lt-ltb i (length (rolls x.terms)) inside) (ap Some (g.1 i _ inside))

    -- in one schedule
    in_order : (k l : ℕ) (p q : Due) → k ≤ l → payment_at x k ≡ Some p → payment_at x l ≡ Some q → p.date ≤ q.date
    in_order k l p q h e f =
        let a = stands x k p e in
        let b = stands x l q f in
        let r =
        never_backward good tries x.terms (order good) k l (roll_in x k) (roll_in x l) h (roll_generated k a.inside)
        (roll_generated l b.inside) in
        omega (arith, a.due, b.due)

  -- on a sheet that stands
  pub dates_in_order : (s : Fresh) → Standing tries s → DatesInOrder tries s
  dates_in_order s h n k l p q le e f =
      let a = read_from h.all n k p (sym (among_all tries s h n k) ∙ e) in
      let b = read_from h.all n l q (sym (among_all tries s h n l) ∙ f) in
      let z : b.schedule ≡ a.schedule = cc in
      let fresh = found_fresh (afresh tries s) n h.all a.schedule (all_fresh tries s h) a.found in
      in_order (good_days s.calendar) a.schedule fresh k l p q le a.read (ap (λ (x : Scheduled). payment_at x l) (sym z) ∙ b.read)

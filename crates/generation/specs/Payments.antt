-- Payments, each from one roll to the next.
use Rattle.std.specs.Prelude.{ℕ, ◌-◌, cond, ◌&&◌, length, Some, None, Option, nat_le, nat_lt}
use Rattle.std.specs.Option.{option_map}
use Rattle.bonds.specs.Money.{amount}
use Rattle.generation.specs.declared.payment.Payment.{Payment}
use Rattle.generation.specs.Rolls.{RollDays}
use Rattle.generation.specs.Schedules.{Scheduled, roll_in}
use Rattle.generation.specs.Views.{number_of}

-- when it falls due, its fixing if there is one, its days and its amount
pub record Due : Type 0 where
  pub date : ℕ
  pub fixing : Option ℕ
  pub days : ℕ
  pub amount : ℕ

-- it falls due on the later roll's adjusted day, has the fixing of the roll before, and runs over the days between
abbrev pub payment_of : ℕ → ℕ → RollDays → RollDays → Due
payment_of face rate from to =
    record {
      date = to.adjusted;
      fixing = from.fixing;
      days = to.adjusted - from.adjusted;
      amount = amount face rate (to.adjusted - from.adjusted);
    }

-- payment k of a schedule, from 1, if it has so many
abbrev pub payment_at : Scheduled → ℕ → Option Due
payment_at s k =
    cond (nat_le 1 k && nat_lt k (length s.days)) (Some (payment_of s.terms.face s.terms.rate (roll_in s (k - 1)) (roll_in s k))) None

abbrev pub seen_payment : Payment → Due
seen_payment p = record { date = p.date.number; fixing = option_map number_of p.fixing; days = p.days; amount = p.amount }

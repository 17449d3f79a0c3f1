use Rattle.std.proofs.Common.{◌≡◌, ℕ, ◌≤◌, Ok, sym, ◌∙◌, arith}
use Rattle.calendars.specs.Codes.{good}
use Rattle.calendars.proofs.GoodDays.{within}
use Rattle.conventions.specs.Tries.{nth_answer}
use Rattle.conventions.proofs.Scanning.{not_far, found_here, found_later, found_none}
use Rattle.conventions.proofs.adjuster.Adjuster.first_good.Given as given
use Rattle.conventions.proofs.adjuster.Adjuster.first_good.Goals as goal

-- the days that make an adjusted one
range : (g : given.Over) (x : g.row.C.Denot) (u k d : ℕ) → Ok d ≡ nth_answer (g.C.Convention.tries x) u k → (335 ≤ d) × (d ≤ 109237)
range g x u k d =
    let law = g.met.C.Convention in
    not_far (g.C.Convention.tries x) g.C.Convention.REACH u k d (law.small x) (law.near x u d)

pub invariant_of-result : goal.invariant_of-result
invariant_of-result g c =
    record { within = range g c.args.self.now.convention.now c.args.u.0 c.loop-k.k c.in_ok-day.day.0 c.in_ok-day.ensures }

pub returns-then-is_good_day : goal.returns-then-is_good_day
returns-then-is_good_day g c =
    found_here (λ d. good (g.K.Calendar.codes c.args.self.now.calendar.now d)) (g.C.Convention.tries c.args.self.now.convention.now) c.args.u.0 c.loop-k.k
    c.in_ok-day.day.0 c.in_ok-day.ensures c.loop-k.invariant (sym (within c.in_ok-day.day.0 _ _ (omega (arith, range g c.args.self.now.convention.now c.args.u.0 c.loop-k.k c.in_ok-day.day.0 c.in_ok-day.ensures)) c.is_good_day.ensures) ∙ c.if-is_good_day.true)

pub loop-k-preserved : goal.loop-k-preserved
loop-k-preserved g c =
    found_later (λ d. good (g.K.Calendar.codes c.args.self.now.calendar.now d)) (g.C.Convention.tries c.args.self.now.convention.now) c.args.u.0 c.loop-k.k
    c.in_ok-day.day.0 c.in_ok-day.ensures c.loop-k.invariant (sym (within c.in_ok-day.day.0 _ _ (omega (arith, range g c.args.self.now.convention.now c.args.u.0 c.loop-k.k c.in_ok-day.day.0 c.in_ok-day.ensures)) c.is_good_day.ensures) ∙ c.if-is_good_day.false)

pub returns : goal.returns
returns g c =
    found_none (λ d. good (g.K.Calendar.codes c.args.self.now.calendar.now d)) (g.C.Convention.tries c.args.self.now.convention.now) c.args.u.0 c.loop-k.k
    c.in_ok-count.count c.in_ok-count.ensures (omega arith) c.loop-k.invariant

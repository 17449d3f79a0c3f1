use Rattle.std.proofs.Common.{◌≡◌, ℕ, ◌<◌}
use Rattle.day_cache.specs.Caches.{cache_codes}
use Rattle.day_cache.proofs.kept_days.KeptDays.new.Given as goal

abbrev pub invariant-loop-day : goal.invariant-loop-day
invariant-loop-day g l =
    (l.kept.start ≡ l.start) × ((d : ℕ) → d < l.day → cache_codes l.kept.words l.kept.start (g.P.Calendar.codes l.lower) d ≡ g.P.Calendar.codes l.lower d)

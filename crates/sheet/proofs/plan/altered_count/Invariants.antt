use Rattle.std.proofs.Common.{◌≡◌, ℕ, ◌+◌, ◌*◌, ◌≤◌, length}
use Rattle.sheet.specs.KeptBonds.{kept}
use Rattle.sheet.specs.Notices.{changes}
use Rattle.sheet.proofs.PairedPlaces.{from_place}
use Rattle.sheet.proofs.plan.altered_count.Given as goal

abbrev pub invariant-loop-was : goal.invariant-loop-was
invariant-loop-was l =
    ((before after : ℕ → ℕ) → l.count + length (from_place before after l.old l.new (length l.yielded)) ≡ length (changes before after (kept l.old) (kept l.new)))
    × (l.count ≤ 99 * length l.yielded)

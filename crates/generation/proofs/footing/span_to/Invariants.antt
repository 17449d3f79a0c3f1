use Rattle.std.proofs.Common.{◌≡◌}
use Rattle.generation.specs.Rolls.{span, up_to}
use Rattle.generation.specs.Views.{seen_footing}
use Rattle.generation.proofs.Spans.{from_place}
use Rattle.generation.proofs.footing.span_to.Given as goal

abbrev pub invariant-loop-k : goal.invariant-loop-k
invariant-loop-k g l =
    from_place (seen_footing l.span) l.at.0 (g.C.Convention.tries l.convention l.u.0) l.k ≡ span l.u.0 l.u.0 (up_to l.at.0 (g.C.Convention.tries l.convention l.u.0))

use Rattle.std.proofs.Common.{ℕ, ◌<◌, List, length, sym, ◌∙◌, arith, rules}
use Rattle.conventions.proofs.Scanning.{tried}
use Rattle.generation.specs.Views.{seen_footing}
use Rattle.generation.proofs.Tried.{count_served, count_is, served_answer}
use Rattle.generation.proofs.Spans.{at_next, at_end, run_out}
use Rattle.generation.proofs.footing.span_to.Goals as goal

pub returns-then-eq : goal.returns-then-eq
returns-then-eq g c =
    let tries : ℕ → List ℕ = g.C.Convention.tries c.args.convention.now in
    let u = c.args.u.0 in
    let n = c.in_ok-count.ensures in
    let m = count_is tries u _ n in
    let w : c.loop-k.k < length (tries u) = omega arith in
    served_answer u _ _ _ (count_served tries u _ n)
    (at_end (seen_footing c.loop-k.span) (seen_footing c.around-span.result) c.args.at.0 (tries u) c.loop-k.k c.in_ok-day.day.0 w
    (sym (tried tries u c.loop-k.k _ c.in_ok-day.ensures).here) (search rules) c.around-span.ensures
    ∙ c.loop-k.invariant)

pub loop-k-preserved : goal.loop-k-preserved
loop-k-preserved g c =
    let tries : ℕ → List ℕ = g.C.Convention.tries c.args.convention.now in
    let u = c.args.u.0 in
    let m = count_is tries u _ c.in_ok-count.ensures in
    let w : c.loop-k.k < length (tries u) = omega arith in
    at_next (seen_footing c.loop-k.span) (seen_footing c.around-span.result) c.args.at.0 (tries u) c.loop-k.k c.in_ok-day.day.0 w
    (sym (tried tries u c.loop-k.k _ c.in_ok-day.ensures).here) (search rules) c.around-span.ensures
    ∙ c.loop-k.invariant

pub returns : goal.returns
returns g c =
    let tries : ℕ → List ℕ = g.C.Convention.tries c.args.convention.now in
    let u = c.args.u.0 in
    let n = c.in_ok-count.ensures in
    let m = count_is tries u _ n in
    served_answer u _ _ _ (count_served tries u _ n)
    (run_out (seen_footing c.loop-k.span) c.args.at.0 (tries u) c.loop-k.k (omega arith) ∙ c.loop-k.invariant)

use Rattle.std.proofs.Common.{refl, arith}
use Rattle.std.proofs.lemmas.Bool.{false≢true}
use Rattle.order_paths.specs.Paths.{Reaches}
use Rattle.order_paths.proofs.Reach.{HasCycle-Reaches}
use Rattle.order_graph.specs.Digraphs.{IsEdge}
use Rattle.tso_model.proofs.Searches.{none_more}
use Rattle.round_pool.proofs.RoundFacts.{no_cycle_within}
use Rattle.trace_judging.proofs.violations.has_cycle.Goals as goal

pub returns-then-reaches : goal.returns-then-reaches
returns-then-reaches c = (λ same. HasCycle-Reaches (IsEdge c.args.graph.now) c.loop-x.x (c.reaches.ensures.path.0 c.if-reaches.true), λ cycle. refl)

pub loop-x-preserved : goal.loop-x-preserved
loop-x-preserved c = none_more (λ y. Reaches (IsEdge c.args.graph.now) y y) c.loop-x.x c.loop-x.invariant (rw c.if-reaches.false at c.reaches.ensures.path)

pub returns : goal.returns
returns c =
    let past = c.loop-x-test.false in
    let size = c.nodes-x-end.ensures.size in
    let none = no_cycle_within c.args.graph.now c.nodes-x-end.ensures.within (λ y low. c.loop-x.invariant y (omega (arith, low, past, size))) in
    (λ same. absurd (false≢true same), λ cycle. absurd (none cycle))

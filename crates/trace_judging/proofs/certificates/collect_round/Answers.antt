use Rattle.std.proofs.Common.{◌≡◌, ◌+◌, ◌-◌, ◌<◌, suc, length, get_or, reverse, refl, sym, subst, ◌∙◌, arith}
use Rattle.std.proofs.lemmas.List.{get_or_default}
use Rattle.order_graph.specs.Digraphs.{IsEdge}
use Rattle.round_pool.specs.Rankings.{edge_from, rounds_of}
use Rattle.trace_judging.specs.Internal.Collecting.{Collects, IsAboveOrListed}
use Rattle.trace_judging.proofs.RoundSteps.{edge_at, round_at, round_given, round_within, round_start, round_step, round_done, collects_nodes}
use Rattle.trace_judging.proofs.certificates.collect_round.Goals as goal

pub loop-i-init : goal.loop-i-init
loop-i-init c = (
  refl,
  λ cycle collects. round_start c.args.trace.now (rounds_of c.args.ranked.now) c.args.r cycle c.added-edges.result.now c.args.marks.now (reverse c.args.steps.now.items) (length c.added-edges.result.now) (omega arith) collects,
)

pub collect_edge-requires : goal.collect_edge-requires
collect_edge-requires c =
    let edges = c.added-edges.result.now in
    let i = c.loop-i.i - 1 in
    let e = get_or edges i (edge_from 0 0) in
    let round = round_at c.args.trace.now c.args.ranked.now c.args.r edges c.requires.ranked c.requires.round c.added-edges.ensures in
    let has = edge_at edges i (omega (arith, c.loop-i-test.true, c.loop-i.auto.i)) in
    let within = round_within c.args.trace.now c.args.r e.from e.to edges round has in
    record {
      nodes = c.loop-i.invariant.0 ∙ c.requires.nodes ∙ sym c.requires.set.nodes;
      from = omega (arith, within.0, c.loop-i.invariant.0, c.requires.nodes);
      to = omega (arith, within.1, c.loop-i.invariant.0, c.requires.nodes);
      given = round_given c.args.trace.now c.args.r e.from e.to c.args.set.now edges c.requires.set round has;
    }

pub loop-i-preserved : goal.loop-i-preserved
loop-i-preserved c =
    let edges = c.added-edges.result.now in
    let i = c.loop-i.i - 1 in
    let e = get_or edges i (edge_from 0 0) in
    let round = round_at c.args.trace.now c.args.ranked.now c.args.r edges c.requires.ranked c.requires.round c.added-edges.ensures in
    let below : i < length edges = omega (arith, c.loop-i-test.true, c.loop-i.auto.i) in
    let more : c.loop-i.i ≡ i + 1 = omega (arith, c.loop-i-test.true) in (
      collects_nodes c.args.trace.now (IsEdge c.args.set.now) e.from e.to c.loop-i.marks c.collect_edge.new.marks c.loop-i.steps.items c.collect_edge.new.steps.items c.in_ok-collect_edge.ensures ∙ c.loop-i.invariant.0,
      λ cycle start. round_step c.args.trace.now (rounds_of c.args.ranked.now) c.args.r i cycle edges e c.args.set.now c.loop-i.marks c.collect_edge.new.marks c.loop-i.steps.items c.collect_edge.new.steps.items
          round c.requires.set below (λ d. get_or_default edges i d (edge_from 0 0) below) c.in_ok-collect_edge.ensures
          (subst (λ n. Collects c.args.trace.now (rounds_of c.args.ranked.now) cycle (IsEdge c.loop-i.marks) (IsAboveOrListed c.args.trace.now (suc c.args.r) edges n) (reverse c.loop-i.steps.items)) more (c.loop-i.invariant.1 cycle start)),
    )

pub returns-clause-nodes : goal.returns-clause-nodes
returns-clause-nodes c = c.loop-i.invariant.0

pub returns-clause-steps : goal.returns-clause-steps
returns-clause-steps c = λ cycle start.
    let edges = c.added-edges.result.now in
    let round = round_at c.args.trace.now c.args.ranked.now c.args.r edges c.requires.ranked c.requires.round c.added-edges.ensures in
    let none : c.loop-i.i ≡ 0 = omega (arith, c.loop-i-test.false) in
    round_done c.args.trace.now (rounds_of c.args.ranked.now) c.args.r cycle edges c.loop-i.marks (reverse c.loop-i.steps.items) round
    (subst (λ n. Collects c.args.trace.now (rounds_of c.args.ranked.now) cycle (IsEdge c.loop-i.marks) (IsAboveOrListed c.args.trace.now (suc c.args.r) edges n) (reverse c.loop-i.steps.items)) none (c.loop-i.invariant.1 cycle start))

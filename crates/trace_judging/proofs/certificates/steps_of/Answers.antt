use Rattle.std.proofs.Common.{◌≡◌, ◌-◌, ◌<◌, suc, reverse, subst, ◌∙◌, arith}
use Rattle.order_graph.specs.Digraphs.{IsEdge}
use Rattle.tso_ops.specs.Events.{event_total}
use Rattle.tso_model.specs.Ranks.{RankSet}
use Rattle.tso_model.proofs.Bounds.{RankSet-within}
use Rattle.round_pool.specs.RankGraphs.{IsRankGraph}
use Rattle.round_pool.specs.Rankings.{rounds_of}
use Rattle.trace_judging.specs.Internal.Collecting.{Collects, IsAboveRank}
use Rattle.trace_judging.proofs.CollectFacts.{Collects-end}
use Rattle.trace_judging.proofs.Neighbours.{cycle_below}
use Rattle.trace_judging.proofs.RoundSteps.{rank_graph_as, rank_graph_less, round_at, round_within, first_steps, all_done}
use Rattle.trace_judging.proofs.certificates.steps_of.Goals as goal

pub mark_cycle-requires : goal.mark_cycle-requires
mark_cycle-requires c =
    let t = c.args.trace.now in
    let last = rw c.last.ensures at c.in_ok-set.ensures in
    let nodes : c.in_ok-marks.marks.nodes ≡ suc (event_total t) = c.in_ok-marks.ensures.0 ∙ c.nodes.ensures.size ∙ last.0 ∙ c.requires.ranked.last.nodes in
    let below = cycle_below (RankSet t (rounds_of c.args.ranked.now)) (suc (event_total t)) c.args.cycle.now (RankSet-within t (rounds_of c.args.ranked.now)) c.requires.cycle in
    rw (c.items.ensures, nodes) below

pub loop-r-init : goal.loop-r-init
loop-r-init c =
    let t = c.args.trace.now in
    let last = rw c.last.ensures at c.in_ok-set.ensures in
    let marks = rw c.items.ensures at c.mark_cycle.ensures in
    let nodes : c.in_ok-marks.marks.nodes ≡ suc (event_total t) = c.in_ok-marks.ensures.0 ∙ c.nodes.ensures.size ∙ last.0 ∙ c.requires.ranked.last.nodes in
    rw (c.rounds-r.ensures, c.new-steps.ensures.items) (
      rank_graph_as t (rounds_of c.args.ranked.now) c.args.ranked.now.last c.in_ok-set.set c.requires.ranked.last last.0 last.1,
      marks.nodes ∙ nodes,
      first_steps t (rounds_of c.args.ranked.now) c.args.cycle.now c.in_ok-marks.marks c.mark_cycle.new.marks c.requires.cycle c.in_ok-marks.ensures.1 marks,
    )

pub remove_edges-requires : goal.remove_edges-requires
remove_edges-requires c = λ u v has.
    let t = c.args.trace.now in
    let r = c.loop-r.r - 1 in
    let edges = c.added.result.now in
    let below : r < rounds_of c.args.ranked.now = omega (arith, c.loop-r-test.true, c.loop-r.auto.r, c.rounds-r.ensures) in
    let round = round_at t c.args.ranked.now r edges c.requires.ranked below c.added.ensures in
    let within = round_within t r u v edges round has in
    let nodes = c.loop-r.invariant.0.nodes in
    (omega (arith, within.0, nodes), omega (arith, within.1, nodes))

pub collect_round-requires-clause-set : goal.collect_round-requires-clause-set
collect_round-requires-clause-set c =
    let t = c.args.trace.now in
    let r = c.loop-r.r - 1 in
    let edges = c.added.result.now in
    let after : c.loop-r.r ≡ suc r = omega (arith, c.loop-r-test.true) in
    let below : r < rounds_of c.args.ranked.now = omega (arith, c.loop-r-test.true, c.loop-r.auto.r, c.rounds-r.ensures) in
    let round = round_at t c.args.ranked.now r edges c.requires.ranked below c.added.ensures in
    rank_graph_less t r c.loop-r.set c.remove_edges.new.set edges (subst (λ n. IsRankGraph t n c.loop-r.set) after c.loop-r.invariant.0) round c.remove_edges.ensures.nodes c.remove_edges.ensures.edges

pub collect_round-requires-clause-nodes : goal.collect_round-requires-clause-nodes
collect_round-requires-clause-nodes c = c.loop-r.invariant.1

pub loop-r-preserved : goal.loop-r-preserved
loop-r-preserved c =
    let t = c.args.trace.now in
    let r = c.loop-r.r - 1 in
    let edges = c.added.result.now in
    let after : c.loop-r.r ≡ suc r = omega (arith, c.loop-r-test.true) in
    let below : r < rounds_of c.args.ranked.now = omega (arith, c.loop-r-test.true, c.loop-r.auto.r, c.rounds-r.ensures) in
    let round = round_at t c.args.ranked.now r edges c.requires.ranked below c.added.ensures in (
      rank_graph_less t r c.loop-r.set c.remove_edges.new.set edges (subst (λ n. IsRankGraph t n c.loop-r.set) after c.loop-r.invariant.0) round c.remove_edges.ensures.nodes c.remove_edges.ensures.edges,
      c.in_ok-collect_round.ensures.nodes ∙ c.loop-r.invariant.1,
      c.in_ok-collect_round.ensures.steps c.args.cycle.now
          (subst (λ n. Collects t (rounds_of c.args.ranked.now) c.args.cycle.now (IsEdge c.loop-r.marks) (IsAboveRank t n) (reverse c.loop-r.steps.items)) after c.loop-r.invariant.2),
    )

pub collect_base-requires : goal.collect_base-requires
collect_base-requires c = record { nodes = c.loop-r.invariant.1 }

pub returns : goal.returns
returns c =
    let t = c.args.trace.now in
    let k = rounds_of c.args.ranked.now in
    let none : c.loop-r.r ≡ 0 = omega (arith, c.loop-r-test.false) in
    Collects-end t k c.args.cycle.now _ _ (reverse c.collect_base.new.steps.items)
    (c.in_ok-collect_base.ensures.steps k c.args.cycle.now (subst (λ n. Collects t k c.args.cycle.now (IsEdge c.loop-r.marks) (IsAboveRank t n) (reverse c.loop-r.steps.items)) none c.loop-r.invariant.2))
    (all_done t k)

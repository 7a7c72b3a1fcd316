use Rattle.std.proofs.Common.{◌<◌, sym, subst, arith}
use Rattle.bitsets.specs.Rows.{HasNumber}
use Rattle.tso_model.proofs.Bounds.{RankSet-within}
use Rattle.round_pool.specs.RankGraphs.{IsRankGraph}
use Rattle.round_pool.proofs.GraphFacts.{rows_more, rows_whole}
use Rattle.round_pool.proofs.graphs.base_graph.Goals as goal

pub add_row-requires-clause-to : goal.add_row-requires-clause-to
add_row-requires-clause-to c = λ v has.
    let edge = (c.in_ok-row.ensures v).0 (subst (λ row. HasNumber row v) c.deref.ensures.value has) in
    subst (λ n. v < n) (sym c.loop-u.invariant.nodes) (RankSet-within c.args.trace.now 0 c.loop-u.u v edge).1

pub loop-u-preserved : goal.loop-u-preserved
loop-u-preserved c =
    rows_more c.args.trace.now c.loop-u.rows c.add_row.new.self c.loop-u.u c.in_ok-row.row.items c.loop-u.invariant c.in_ok-row.ensures c.add_row.ensures.nodes
    (rw c.deref.ensures.value at c.add_row.ensures.edges)

pub returns : goal.returns
returns c =
    subst (IsRankGraph c.args.trace.now 0) (sym c.in_ok-of_rows.ensures.same)
    (rows_whole c.args.trace.now c.loop-u.rows c.loop-u.u c.loop-u.invariant (omega (arith, c.loop-u-test.false, c.node_count-nodes.ensures.count)))

use Rattle.std.proofs.Common.{get_or, arith}
use Rattle.round_pool.specs.Rankings.{edge_from}
use Rattle.trace_judging.proofs.RoundSteps.{edge_at}
use Rattle.trace_judging.proofs.certificates.remove_edges.Goals as goal

pub remove-requires : goal.remove-requires
remove-requires c =
    let e = get_or c.args.edges.now c.loop-edge.edge-index (edge_from 0 0) in
    let within = c.requires e.from e.to (edge_at c.args.edges.now c.loop-edge.edge-index c.loop-edge-test.true) in
    let same = c.loop-edge.invariant.nodes in
    record { from = omega (arith, within.0, same); to = omega (arith, within.1, same) }

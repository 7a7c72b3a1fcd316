use Rattle.std.proofs.Common.{sym, subst}
use Rattle.order_graph.specs.Digraphs.{IsEdge}
use Rattle.trace_judging.specs.Internal.Collecting.{IsReasonBelow}
use Rattle.trace_judging.proofs.Neighbours.{reason_below}
use Rattle.trace_judging.proofs.certificates.collect_edge.Goals as goal

pub mark_used-requires : goal.mark_used-requires
mark_used-requires c =
    let just = rw c.in-Some.is at c.in_ok-reason.ensures in
    subst (λ n. IsReasonBelow n c.in-Some.reason) (sym c.requires.nodes)
    (reason_below c.args.trace.now (IsEdge c.args.set.now) c.args.set.now.nodes c.args.u c.args.v c.in-Some.reason c.nodes-nodes.ensures.within just)

use Rattle.std.proofs.Common.{◌<◌, suc, subst, arith}
use Rattle.std.specs.Result.{IfOk}
use Rattle.bitsets.specs.Rows.{HasNumber, IsListOf}
use Rattle.tso_ops.specs.Events.{event_total}
use Rattle.tso_ops.proofs.EventFacts.{event_total-most}
use Rattle.order_graph.specs.Digraphs.{IsEdge}
use Rattle.tso_model.specs.NewEdges.{IsNew}
use Rattle.tso_model.proofs.NewEdgeFacts.{new_within}
use Rattle.bitsets.proofs.MarkFacts.{marked_is}
use Rattle.bitsets.proofs.ListFacts.{list_marked}
use Rattle.tso_rules.proofs.over_base.row_edges_over_base.Goals as goal

pub marked-requires-clause-small : goal.marked-requires-clause-small
marked-requires-clause-small c = omega (arith, c.node_count.ensures.count, event_total-most c.args.trace.now c.events-events.ensures.kept)

pub marked-requires-clause-within : goal.marked-requires-clause-within
marked-requires-clause-within c = λ v has.
    let to = marked_is c.new-marks.result.items c.mark_new_over_base.new.marks.items (IsNew c.args.trace.now (IsEdge c.args.graph.now) c.args.u) c.new-marks.ensures.items c.in_ok-mark_new_over_base.ensures v (subst (λ m. HasNumber m v) c.deref.ensures.value has) in
    let low : v < suc (event_total c.args.trace.now) = (new_within c.args.trace.now (IsEdge c.args.graph.now) c.args.u v to).1 in
    omega (arith, low, c.node_count.ensures.count)

pub returns : goal.returns
returns c =
    list_marked c.marked.result c.new-marks.result.items c.mark_new_over_base.new.marks.items (IsNew c.args.trace.now (IsEdge c.args.graph.now) c.args.u) c.new-marks.ensures.items c.in_ok-mark_new_over_base.ensures
    (subst (λ m. IfOk c.marked.result (λ row. IsListOf row.items (HasNumber m))) c.deref.ensures.value c.marked.ensures)

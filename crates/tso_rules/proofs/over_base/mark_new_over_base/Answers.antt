use Rattle.order_graph.specs.Digraphs.{IsEdge}
use Rattle.tso_rules.proofs.InferredFacts.{marks_rules}
use Rattle.bitsets.proofs.MarkFacts.{on_ok}
use Rattle.tso_rules.proofs.over_base.mark_new_over_base.Goals as goal

pub returns : goal.returns
returns c =
    on_ok c.mark_swap_after.result _ _
    (marks_rules c.args.trace.now (IsEdge c.args.graph.now) c.args.u c.args.marks.now.items c.mark_load_past_over_base.new.marks.items c.mark_store_past.new.marks.items
    c.mark_swap_before.new.marks.items c.mark_swap_after.new.marks.items c.in_ok-mark_load_past_over_base.ensures c.in_ok-mark_store_past.ensures c.in_ok-mark_swap_before.ensures)
    c.mark_swap_after.ensures

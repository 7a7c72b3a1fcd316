use Rattle.std.proofs.Common.{refl, arith}
use Rattle.std.proofs.lemmas.List.{take_at}
use Rattle.order_graph.proofs.AllPaths.{KeepsSomePaths-table}
use Rattle.order_graph.proofs.GrownFacts.{IsNodeRow-empty, sees_settled}
use Rattle.order_graph.proofs.graphs.Graph.of_rows.Goals as goal

pub transposed_table-requires : goal.transposed_table-requires
transposed_table-requires c =
    let t = c.into_table-nodes.result in
    let some = rw c.deref.ensures.value at c.in_ok-paths.ensures in
    rw c.deref-2.ensures.value (KeepsSomePaths-table t.0 t.1 t.2.items c.in_ok-paths.paths.items c.into_table-nodes.ensures.edges some)

pub invariant_of-result : goal.invariant_of-result
invariant_of-result c =
    let keeps = rw c.deref.ensures.value at c.join_rest.ensures in
    (rw (take_at c.join_rest.new.paths _ c.in_ok-paths.paths.len (omega arith), take_at c.join_rest.new.transposed _ c.in_ok-transposed.transposed.len (omega arith)) keeps, IsNodeRow-empty c.into_table-nodes.result.0 c.into_table-nodes.result.1 _ (c.in_ok-vec.ensures.items_if_clones_equal (λ y e. e)))

pub returns-clause-settled : goal.returns-clause-settled
returns-clause-settled c =
    let t = c.into_table-nodes.result in
    sees_settled _ t.0 t.1 t.2.items c.in_ok-vec.field-0.items refl (c.in_ok-vec.ensures.items_if_clones_equal (λ y e. e))

use Rattle.std.proofs.Common.{refl, arith}
use Rattle.order_graph.proofs.KeptTablesFacts.{sees_empty}
use Rattle.order_graph.proofs.Rows.{IsTable-empty}
use Rattle.order_graph.proofs.edge_rows.EdgeRows.new.Goals as goal

pub invariant_of-result : goal.invariant_of-result
invariant_of-result c =
    IsTable-empty c.args.nodes c.div_ceil-width.result _ (omega arith) (omega (arith, c.div_ceil-width.ensures)) (c.in_ok-vec.ensures.items_if_clones_equal (λ y e. e))

pub returns : goal.returns
returns c =
    (refl, sees_empty _ c.args.nodes c.div_ceil-width.result c.in_ok-vec.field-0.items (record { grown = _; is = refl }) (c.in_ok-vec.ensures.items_if_clones_equal (λ y e. e)))

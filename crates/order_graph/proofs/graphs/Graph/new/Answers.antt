use Rattle.std.proofs.Common.{refl, arith}
use Rattle.order_graph.proofs.KeptTablesFacts.{KeepsAllPaths-empty, sees_empty}
use Rattle.order_graph.proofs.GrownFacts.{IsNodeRow-empty, sees_settled}
use Rattle.order_graph.proofs.graphs.Graph.new.Goals as goal

pub invariant_of-result : goal.invariant_of-result
invariant_of-result c = (
  KeepsAllPaths-empty c.args.nodes c.div_ceil-width.result _ _ _ (omega arith) (omega (arith, c.div_ceil-width.ensures))
      (c.in_ok-vec.ensures.items_if_clones_equal (λ y e. e)) (c.in_ok-vec-2.ensures.items_if_clones_equal (λ y e. e)) (c.in_ok-vec-3.ensures.items_if_clones_equal (λ y e. e)),
  IsNodeRow-empty c.args.nodes c.div_ceil-width.result _ (c.in_ok-vec-4.ensures.items_if_clones_equal (λ y e. e)),
)

pub returns : goal.returns
returns c = (
  refl,
  sees_empty _ c.args.nodes c.div_ceil-width.result c.in_ok-vec.field-0.items (record { grown = c.in_ok-vec-4.field-0.items; is = refl }) (c.in_ok-vec.ensures.items_if_clones_equal (λ y e. e)),
  sees_settled _ c.args.nodes c.div_ceil-width.result c.in_ok-vec.field-0.items c.in_ok-vec-4.field-0.items refl (c.in_ok-vec-4.ensures.items_if_clones_equal (λ y e. e)),
)

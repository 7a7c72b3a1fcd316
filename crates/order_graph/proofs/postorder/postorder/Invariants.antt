use Rattle.std.proofs.Common.{◌≡◌, ℕ, ◌/◌, ◌<◌, All, length}
use Rattle.bitsets.specs.Tables.{IsSet}
use Rattle.order_graph.proofs.postorder.postorder.Given as goal

abbrev pub invariant-loop : goal.invariant-loop
invariant-loop l =
    (length l.left.items ≡ l.edges.width) × ((y : ℕ) → y / 64 < l.edges.width → IsSet l.left.items l.edges.width 0 y → y < l.nodes) ×
    All (λ x. x < l.nodes) l.stack.items × All (λ x. x < l.nodes) l.order.items

use Rattle.std.proofs.Common.{◌≡◌, ◌↔◌, ℕ, ◌/◌, ◌<◌, length}
use Rattle.bitsets.specs.Tables.{IsSet}
use Rattle.order_graph.proofs.postorder.row_of_all.Given as goal

abbrev pub invariant-loop-y : goal.invariant-loop-y
invariant-loop-y l = (length l.row.items ≡ l.width) × ((y : ℕ) → y / 64 < l.width → IsSet l.row.items l.width 0 y ↔ (y < l.y))

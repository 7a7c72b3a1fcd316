use Rattle.std.proofs.Common.{◌≡◌}
use Rattle.order_graph.specs.Internal.Tables.{IsSelfOrSet}
use Rattle.bitsets.proofs.TableFacts.{Leaves}
use Rattle.order_graph.proofs.AddedBits.{SpreadFrom}
use Rattle.order_graph.proofs.joining.add_row.Given as goal

abbrev pub invariant-loop-j : goal.invariant-loop-j
invariant-loop-j l = Leaves l.initial.table l.table l.width (λ i y. (i ≡ l.x) × IsSelfOrSet l.initial.table l.width l.v y) (SpreadFrom l.initial.table l.width l.x l.v l.j)

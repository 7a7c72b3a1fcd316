use Rattle.std.proofs.Common.{◌≡◌}
use Rattle.bitsets.specs.Tables.{IsSet}
use Rattle.bitsets.proofs.TableFacts.{Leaves}
use Rattle.order_graph.proofs.ClosingFacts.{ClosedFrom}
use Rattle.order_graph.proofs.closing.note_closed.Given as goal

abbrev pub invariant-loop-j : goal.invariant-loop-j
invariant-loop-j l =
    Leaves l.initial.row l.row l.tables.width (λ i y. (i ≡ 0) × IsSet l.tables.edges.now l.tables.width l.x y × IsSet l.tables.transposed.now l.tables.width l.x y × IsSet l.upto l.tables.width 0 y) (ClosedFrom l.tables.edges.now l.tables.transposed.now l.upto l.tables.width l.x l.j)

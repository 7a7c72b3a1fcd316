use Rattle.std.proofs.Common.{ℕ, ◌/◌, ◌<◌}
use Rattle.bitsets.specs.Tables.{IsSet}
use Rattle.order_graph.specs.Internal.Tables.{AreTransposed}
use Rattle.order_graph.specs.Internal.KeptPaths.{KeepsSomePaths}
use Rattle.order_graph.proofs.all_paths.join_row.Given as goal

abbrev pub invariant-loop-j : goal.invariant-loop-j
invariant-loop-j l =
    KeepsSomePaths l.nodes l.edges.width l.edges.words.now l.paths × AreTransposed l.paths l.transposed l.edges.width l.nodes ×
    ((a b : ℕ) → b / 64 < l.edges.width → IsSet l.initial.paths l.edges.width a b → IsSet l.paths l.edges.width a b) ×
    ((y : ℕ) → y / 64 < l.j → y / 64 < l.edges.width → IsSet l.edges.words.now l.edges.width l.x y → IsSet l.paths l.edges.width l.x y)

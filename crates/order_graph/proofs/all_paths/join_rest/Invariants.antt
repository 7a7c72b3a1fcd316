use Rattle.std.proofs.Common.{ℕ, ◌/◌, ◌<◌}
use Rattle.bitsets.specs.Tables.{IsSet}
use Rattle.order_graph.specs.Internal.Tables.{AreTransposed}
use Rattle.order_graph.specs.Internal.KeptPaths.{KeepsSomePaths}
use Rattle.order_graph.proofs.all_paths.join_rest.Given as goal

abbrev pub invariant-loop-x : goal.invariant-loop-x
invariant-loop-x l =
    KeepsSomePaths l.nodes l.edges.width l.edges.words.now l.paths × AreTransposed l.paths l.transposed l.edges.width l.nodes ×
    ((a y : ℕ) → a < l.x → y / 64 < l.edges.width → IsSet l.edges.words.now l.edges.width a y → IsSet l.paths l.edges.width a y)

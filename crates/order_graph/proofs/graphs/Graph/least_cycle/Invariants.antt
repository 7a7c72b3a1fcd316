use Rattle.std.proofs.Common.{◌≡◌, ◌↔◌, ℕ, ◌/◌, ◌<◌, MatchOption, length}
use Rattle.bitsets.specs.Tables.{IsSet}
use Rattle.order_graph.specs.Internal.Tables.{Joined}
use Rattle.order_graph.specs.Internal.Tracks.{NoCycleBefore, IsLeastCycleBefore}
use Rattle.order_graph.proofs.graphs.Graph.least_cycle.Given as goal

abbrev pub invariant-loop-start : goal.invariant-loop-start
invariant-loop-start l =
    let t = l.tables in
    MatchOption l.best (NoCycleBefore (Joined t.edges.now t.width t.nodes) l.start) (λ cycle. IsLeastCycleBefore (Joined t.edges.now t.width t.nodes) l.start cycle.items) ×
    (length l.passed.items ≡ t.width) × ((y : ℕ) → y / 64 < t.width → IsSet l.passed.items t.width 0 y ↔ (y < l.start))

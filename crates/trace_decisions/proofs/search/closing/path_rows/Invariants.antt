use Rattle.std.proofs.Common.{◌≡◌}
use Rattle.trace_decisions.proofs.search.closing.path_rows.Given as goal

abbrev pub invariant-loop-u : goal.invariant-loop-u
invariant-loop-u l = l.rows.nodes ≡ l.closed.nodes

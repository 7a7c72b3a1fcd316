use Rattle.std.proofs.Common.{◌≡◌, ℕ, suc, ◌≤◌, ◌<◌, length}
use Rattle.tso_ops.specs.Events.{event_total}
use Rattle.tso_rules.specs.Rows.{IsLater}
use Rattle.acyclic_traces.specs.Internal.Pairs.{HasPair}
use Rattle.acyclic_traces.proofs.program_order.put_order.Given as goal

-- the table has the pairs of 0, and those that program order gives of the numbers passed
abbrev pub invariant-loop-u : goal.invariant-loop-u
invariant-loop-u l = (length l.rows ≡ 64) × ((v : ℕ) → l.u ≤ v → v < suc (event_total l.trace) → HasPair l.rows 0 v) × ((u v : ℕ) → l.u ≤ u → IsLater l.trace u v → HasPair l.rows u v)

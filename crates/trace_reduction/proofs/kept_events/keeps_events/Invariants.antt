use Rattle.std.proofs.Common.{ℕ, ◌≤◌}
use Rattle.tso_ops.specs.Events.{IsEvent}
use Rattle.log_selections.specs.Cuts.{origin_in}
use Rattle.trace_reduction.specs.Internal.Checking.{KeepsEvent}
use Rattle.trace_reduction.proofs.kept_events.keeps_events.Given as goal

abbrev pub invariant-loop-k : goal.invariant-loop-k
invariant-loop-k g = (n : ℕ) → IsEvent g.small n → n ≤ g.k → KeepsEvent g.trace g.small (origin_in g.origins) n

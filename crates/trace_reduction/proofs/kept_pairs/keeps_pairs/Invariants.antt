use Rattle.std.proofs.Common.{ℕ, ◌≤◌}
use Rattle.tso_ops.specs.Events.{IsEvent}
use Rattle.log_selections.specs.Cuts.{origin_in}
use Rattle.trace_reduction.specs.Internal.Checking.{KeepsPairsOf}
use Rattle.trace_reduction.proofs.kept_pairs.keeps_pairs.Given as goal

abbrev pub invariant-loop-k : goal.invariant-loop-k
invariant-loop-k g = (n : ℕ) → IsEvent g.small n → n ≤ g.k → KeepsPairsOf g.trace g.small (origin_in g.origins) n

use Rattle.std.proofs.Common.{◌≡◌, ℕ, ◌≤◌, Some}
use Rattle.tso_ops.specs.Events.{HasSource, IsLoad}
use Rattle.log_selections.specs.Cuts.{origin_in}
use Rattle.log_selections.specs.Internal.Known.{source_in}
use Rattle.log_selections.proofs.source_checks.keeps_sources.Given as goal

abbrev pub invariant-loop-k : goal.invariant-loop-k
invariant-loop-k g =
    (l : ℕ) → IsLoad g.trace l → l ≤ g.k → (s : ℕ) × HasSource g.trace l s × (source_in g.sources (origin_in g.origins l) ≡ Some (origin_in g.origins s))

use Rattle.std.proofs.Common.{◌-◌, ◌≤◌, length, map}
use Rattle.tso_model.proofs.LastRankSet.{last_exists}
use Rattle.round_pool.specs.Internal.Worksets.{IsWorkset}
use Rattle.round_pool.specs.Workers.{worker_limit}
use Rattle.round_pool.proofs.RoundFacts.{AreRoundsMade, IsAcyclic}
use Rattle.round_pool.proofs.round_loop.rounds_after_acyclic.Given as goal

abbrev pub invariant-loop-numbers : goal.invariant-loop-numbers
invariant-loop-numbers g l =
    AreRoundsMade l.trace l.last (map (λ edges. edges.items) l.added.items) × IsAcyclic l.last × IsWorkset l.trace l.last l.numbers.items × (1 ≤ l.sharing) × (l.sharing ≤ worker_limit)

-- each round comes nearer to a last rank set
abbrev pub decreases-loop-numbers : goal.decreases-loop-numbers
decreases-loop-numbers g l = (last_exists l.trace).0 - length l.added.items

use Rattle.std.proofs.Common.{ℕ, ◌<◌, take}
use Rattle.tso_ops.specs.Events.{event_total}
use Rattle.tso_model.specs.Certs.{StepHolds}
use Rattle.cert_check.specs.Internal.Pairs.{ListsUpTo}
use Rattle.cert_check.proofs.checks.check_steps.Given as goal

abbrev pub invariant-loop-k : goal.invariant-loop-k
invariant-loop-k l = record { hold : (j : ℕ) → j < l.k → StepHolds l.trace l.steps j; pairs : ListsUpTo (event_total l.trace) l.pairs (take l.k l.steps) }

use Rattle.std.proofs.Common.{take}
use Rattle.log_text.specs.LogValues.{log_operations, log_value}
use Rattle.value_check.specs.Internal.Known.{IsKnownBy}
use Rattle.value_check.specs.Refusals.{StepsHoldBelow}
use Rattle.value_check.proofs.checks.check_values.Given as goal

-- the steps so far hold, and are known
abbrev pub invariant-loop-k : goal.invariant-loop-k
invariant-loop-k l =
    IsKnownBy (log_operations (log_value l.log)) (take l.k l.evidence.steps.items) l.known × StepsHoldBelow (log_operations (log_value l.log)) l.evidence.steps.items l.k

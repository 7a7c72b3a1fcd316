use Rattle.std.proofs.Common.{All, take}
use Rattle.program_chains.specs.LogEvents.{log_trace}
use Rattle.value_check.specs.Internal.Known.{IsKnownBy, IsOfEvents}
use Rattle.value_check.proofs.known.Known.by_steps.Given as goal

-- the steps so far are known
abbrev pub invariant-loop-step : goal.invariant-loop-step
invariant-loop-step l = All (IsOfEvents (log_trace l.log)) l.steps → IsKnownBy (log_trace l.log) (take l.step-index l.steps) l.known

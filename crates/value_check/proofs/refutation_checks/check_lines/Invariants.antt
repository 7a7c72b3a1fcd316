use Rattle.std.proofs.Common.{◌+◌, drop, Option}
use Rattle.program_chains.specs.LogEvents.{log_trace}
use Rattle.value_check.specs.declared.refusals.ValueRefutationFault.{ValueRefutationFault}
use Rattle.value_check.specs.Internal.InForce.{Place, IsAt, start}
use Rattle.value_check.specs.Internal.Walks.{Walks}
use Rattle.value_check.proofs.refutation_checks.check_lines.Given as goal

-- the checker is at a place from which the check of the rest says what that of all lines says
abbrev pub invariant-loop-k : goal.invariant-loop-k
invariant-loop-k l =
    (p : Place) × IsAt (log_trace l.log) l.state p
    × ((answer : Option ValueRefutationFault) → Walks (log_trace l.log) p (l.k + 1) (drop l.k l.lines) answer → Walks (log_trace l.log) start 1 l.lines answer)

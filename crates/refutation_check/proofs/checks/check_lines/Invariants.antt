use Rattle.std.proofs.Common.{◌≡◌, [], ◌+◌, drop, reverse, Option}
use Rattle.tso_ops.specs.Events.{event_total}
use Rattle.refutation_check.specs.declared.faults.RefutationFault.{RefutationFault}
use Rattle.refutation_check.specs.Internal.Pairs.{IsKept}
use Rattle.refutation_check.specs.Internal.Walks.{Walks}
use Rattle.refutation_check.proofs.checks.check_lines.Given as goal

-- what the check of the rest says is what that of all lines says
abbrev pub invariant-loop-k : goal.invariant-loop-k
invariant-loop-k l = record {
  kept : IsKept l.pairs;
  nodes : l.pairs.table.nodes ≡ event_total l.trace + 1;
  told : (answer : Option RefutationFault) → Walks l.trace l.pairs.pairs.items (reverse l.pairs.cases.items) (l.k + 1) (drop l.k l.lines) answer → Walks l.trace [] [] 1 l.lines answer;
}

use Rattle.std.proofs.Common.{◌≡◌, map, take}
use Rattle.tso_evidence.specs.declared.refutations.RefutationLine.TheVariants.{Step}
use Rattle.trace_decisions.proofs.decisions.lines_of.Given as goal

-- the lines of the steps passed are in the list
abbrev pub invariant-loop-step : goal.invariant-loop-step
invariant-loop-step l = l.lines.items ≡ map Step (take l.step-index l.steps)

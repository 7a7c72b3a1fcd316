use Rattle.std.proofs.Common.{◌+◌, ◌-◌, length, drop}
use Rattle.trace_explanation.specs.Internal.Tables.{FindsNumbers}
use Rattle.trace_explanation.proofs.numbers.list_numbers.Given as goal

abbrev pub invariant-loop-done : goal.invariant-loop-done
invariant-loop-done l = FindsNumbers (length l.steps - l.done + 1) (drop (length l.steps - l.done) l.steps) l.numbers

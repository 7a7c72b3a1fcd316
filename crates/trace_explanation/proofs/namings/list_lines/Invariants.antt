use Rattle.std.proofs.Common.{◌≡◌, map}
use Rattle.std.specs.List.{range_with_len}
use Rattle.tso_ops.specs.Operations.{operations_of}
use Rattle.trace_explanation.specs.Namings.{line_at}
use Rattle.trace_explanation.proofs.namings.list_lines.Given as goal

abbrev pub invariant-loop-n : goal.invariant-loop-n
invariant-loop-n l = l.operations.operations.items ≡ operations_of l.trace → l.lines.items ≡ map (line_at l.trace) (range_with_len 1 l.n)

use Rattle.std.proofs.Common.{◌≡◌, map, string_bytes}
use Rattle.std.specs.List.{range_with_len}
use Rattle.tso_ops.specs.Operations.{operations_of}
use Rattle.trace_explanation.specs.Namings.{own_name}
use Rattle.trace_explanation.proofs.namings.list_names.Given as goal

abbrev pub invariant-loop-n : goal.invariant-loop-n
invariant-loop-n l = l.operations.operations.items ≡ operations_of l.trace → map string_bytes l.names.items ≡ map (own_name l.trace) (range_with_len 1 l.n)

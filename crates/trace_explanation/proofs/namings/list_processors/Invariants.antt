use Rattle.std.proofs.Common.{◌≡◌, map}
use Rattle.std.specs.List.{range_with_len}
use Rattle.trace_explanation.specs.Names.{processor_at}
use Rattle.trace_explanation.proofs.namings.list_processors.Given as goal

abbrev pub invariant-loop-n : goal.invariant-loop-n
invariant-loop-n l = l.processors.items ≡ map (processor_at l.trace) (range_with_len 1 l.n)

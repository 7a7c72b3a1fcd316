use Rattle.std.proofs.Common.{◌≡◌}
use Rattle.std.specs.List.{filter, range_with_len}
use Rattle.trace_explanation.specs.Steps.{is_named}
use Rattle.trace_explanation.proofs.marks.list_named.Given as goal

abbrev pub invariant-loop-n : goal.invariant-loop-n
invariant-loop-n g l = l.events.items ≡ filter (is_named (g.N.NamesEvents.numbers l.trace) l.lines) (range_with_len 1 l.n)

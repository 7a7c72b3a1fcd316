use Rattle.std.proofs.Common.{◌≡◌, ◌++◌}
use Rattle.std.specs.List.{filter_map, range_with_len}
use Rattle.tso_ops.specs.Values.{rows}
use Rattle.final_states.specs.Internal.Words.{drained}
use Rattle.final_states.proofs.moves.push_drained.Given as goal

abbrev pub invariant-loop-i : goal.invariant-loop-i
invariant-loop-i l = rows l.found.items ≡ rows l.initial.found.items ++ filter_map (drained l.program l.plan.addresses.items l.words l.p) (range_with_len 0 l.i)

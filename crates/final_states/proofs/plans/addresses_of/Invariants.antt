use Rattle.std.proofs.Common.{◌≡◌, filter}
use Rattle.std.specs.List.{list_any, range_with_len}
use Rattle.tso_ops.specs.Values.{in_file_order}
use Rattle.final_states.specs.FinalStates.{stores_to}
use Rattle.final_states.proofs.plans.addresses_of.Given as goal

abbrev pub invariant-loop-a : goal.invariant-loop-a
invariant-loop-a l = l.addresses.items ≡ filter (λ a. list_any (stores_to a) (in_file_order l.program)) (range_with_len 0 l.a)

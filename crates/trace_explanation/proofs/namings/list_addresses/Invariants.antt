use Rattle.std.proofs.Common.{◌≡◌, map}
use Rattle.std.specs.List.{range_with_len}
use Rattle.trace_explanation.specs.Names.{address_at}
use Rattle.trace_explanation.proofs.namings.list_addresses.Given as goal

abbrev pub invariant-loop-n : goal.invariant-loop-n
invariant-loop-n l = l.addresses.items ≡ map (address_at l.trace) (range_with_len 1 l.n)

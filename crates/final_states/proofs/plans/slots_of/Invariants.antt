use Rattle.std.proofs.Common.{◌≡◌, map}
use Rattle.std.specs.List.{range_with_len}
use Rattle.final_states.specs.Internal.Words.{slot_of}
use Rattle.final_states.proofs.plans.slots_of.Given as goal

abbrev pub invariant-loop-a : goal.invariant-loop-a
invariant-loop-a l = l.slots.items ≡ map (slot_of l.addresses) (range_with_len 0 l.a)

use Rattle.std.proofs.Common.{◌≡◌, drop, take}
use Rattle.std.specs.List.{zip}
use Rattle.final_states.specs.Internal.Words.{memory_start}
use Rattle.final_states.proofs.finals.last_of.Given as goal

abbrev pub invariant-loop-k : goal.invariant-loop-k
invariant-loop-k l = l.last.items ≡ take l.k (zip l.plan.addresses.items (drop (memory_start l.program) l.words))

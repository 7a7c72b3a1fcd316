use Rattle.std.proofs.Common.{◌≡◌, true, take}
use Rattle.std.specs.List.{zip}
use Rattle.final_states.specs.Internal.Words.{is_empty, waiting}
use Rattle.final_states.proofs.buffers.is_buffer_empty.Given as goal

abbrev pub invariant-loop-i : goal.invariant-loop-i
invariant-loop-i l = is_empty (waiting 0 (take l.i (zip l.ops l.marks))) ≡ true

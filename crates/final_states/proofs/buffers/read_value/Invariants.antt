use Rattle.std.proofs.Common.{◌≡◌, take}
use Rattle.std.specs.List.{zip}
use Rattle.unit_core.specs.Machine.{newest}
use Rattle.final_states.specs.Internal.Words.{waiting}
use Rattle.final_states.proofs.buffers.read_value.Given as goal

abbrev pub invariant-loop-i : goal.invariant-loop-i
invariant-loop-i l = l.newest ≡ newest (waiting 0 (take l.i (zip l.ops l.marks))) l.a l.value

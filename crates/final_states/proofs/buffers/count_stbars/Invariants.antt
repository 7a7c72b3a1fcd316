use Rattle.std.proofs.Common.{◌≡◌, take}
use Rattle.final_states.specs.Internal.Words.{stbars_among}
use Rattle.final_states.proofs.buffers.count_stbars.Given as goal

abbrev pub invariant-loop-i : goal.invariant-loop-i
invariant-loop-i l = l.count ≡ stbars_among (take l.i l.ops)

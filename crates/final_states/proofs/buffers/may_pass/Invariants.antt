use Rattle.std.proofs.Common.{◌≡◌, true, take}
use Rattle.std.specs.List.{zip}
use Rattle.final_states.specs.Internal.Words.{passes_all, stbars_in, waiting}
use Rattle.final_states.proofs.buffers.may_pass.Given as goal

abbrev pub invariant-loop-i : goal.invariant-loop-i
invariant-loop-i l = record {
  seen : l.seen ≡ stbars_in (take l.i (zip l.ops l.marks));
  passed : passes_all l.order (waiting 0 (take l.i (zip l.ops l.marks))) l.a l.stbars ≡ true;
}

use Rattle.std.proofs.Common.{◌≡◌, true}
use Rattle.std.specs.List.{list_all, range_with_len}
use Rattle.final_states.specs.Internal.Words.{is_done}
use Rattle.final_states.proofs.finals.is_final.Given as goal

abbrev pub invariant-loop-p : goal.invariant-loop-p
invariant-loop-p l = list_all (is_done l.program l.words) (range_with_len 0 l.p) ≡ true

use Rattle.std.proofs.Common.{◌≡◌, map}
use Rattle.std.specs.List.{range_with_len}
use Rattle.tso_ops.specs.Values.{rows}
use Rattle.log_selections.specs.Shown.{counted_of}
use Rattle.log_selections.proofs.shown.count_lists.Given as goal

abbrev pub invariant-loop-p : goal.invariant-loop-p
invariant-loop-p l = rows l.lists.items ≡ map (counted_of l.fn.shown) (range_with_len 0 l.p)

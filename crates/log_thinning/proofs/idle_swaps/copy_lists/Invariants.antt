use Rattle.std.proofs.Common.{◌≡◌, map, take}
use Rattle.tso_ops.specs.Values.{rows}
use Rattle.log_thinning.proofs.idle_swaps.copy_lists.Given as goal

abbrev pub invariant-loop-list : goal.invariant-loop-list
invariant-loop-list l = rows l.copied.items ≡ map (λ xs. xs) (take l.list-index (rows l.lists))

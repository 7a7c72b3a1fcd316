use Rattle.std.proofs.Common.{◌≡◌, map, take}
use Rattle.std.specs.List.{flat_map}
use Rattle.tso_ops.specs.Values.{rows}
use Rattle.log_thinning.specs.IdleSwaps.{read_of}
use Rattle.log_thinning.proofs.idle_swaps.read_lists.Given as goal

abbrev pub invariant-loop-list : goal.invariant-loop-list
invariant-loop-list l = rows l.read.items ≡ map (flat_map read_of) (take l.list-index (rows l.lists))

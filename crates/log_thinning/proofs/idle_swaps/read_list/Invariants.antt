use Rattle.std.proofs.Common.{◌≡◌, take}
use Rattle.std.specs.List.{flat_map}
use Rattle.log_thinning.specs.IdleSwaps.{read_of}
use Rattle.log_thinning.proofs.idle_swaps.read_list.Given as goal

abbrev pub invariant-loop-logged : goal.invariant-loop-logged
invariant-loop-logged l = l.read.items ≡ flat_map read_of (take l.logged-index l.list)

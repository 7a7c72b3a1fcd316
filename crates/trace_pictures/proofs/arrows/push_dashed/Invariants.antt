use Rattle.std.proofs.Common.{◌≡◌, ◌++◌, take}
use Rattle.std.specs.List.{flat_map}
use Rattle.trace_pictures.specs.Arrows.{dashed_arrow}
use Rattle.trace_pictures.proofs.arrows.push_dashed.Given as goal

abbrev pub invariant-loop-k : goal.invariant-loop-k
invariant-loop-k l = l.arrows.items ≡ l.fn.arrows.items ++ flat_map (dashed_arrow l.steps) (take l.k-index l.last)

use Rattle.std.proofs.Common.{◌≡◌, take}
use Rattle.std.specs.List.{filter}
use Rattle.trace_pictures.specs.Arrows.{leaves}
use Rattle.trace_pictures.proofs.lines.list_leaving.Given as goal

abbrev pub invariant-loop-arrow : goal.invariant-loop-arrow
invariant-loop-arrow l = l.here.items ≡ filter (leaves l.n) (take l.arrow-index l.arrows)

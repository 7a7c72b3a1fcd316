use Rattle.std.proofs.Common.{◌≡◌, ◌++◌, map, take}
use Rattle.trace_pictures.specs.Arrows.{arrow_along}
use Rattle.trace_pictures.proofs.arrows.push_along.Given as goal

abbrev pub invariant-loop-link : goal.invariant-loop-link
invariant-loop-link l = l.arrows.items ≡ l.fn.arrows.items ++ map (arrow_along l.numbered l.mark) (take l.link-index l.links)

use Rattle.std.proofs.Common.{◌≡◌, ◌++◌, take}
use Rattle.std.specs.List.{flat_map}
use Rattle.trace_pictures.specs.Edges.{link_load}
use Rattle.trace_pictures.proofs.cycles.push_loads.Given as goal

abbrev pub invariant-loop-link : goal.invariant-loop-link
invariant-loop-link l = l.red.items ≡ l.fn.red.items ++ flat_map (link_load l.trace l.numbered) (take l.link-index l.links)

use Rattle.std.proofs.Common.{◌≡◌, ◌++◌, take}
use Rattle.trace_pictures.specs.Arrows.{red_links}
use Rattle.trace_pictures.proofs.arrows.push_links.Given as goal

abbrev pub invariant-loop-link : goal.invariant-loop-link
invariant-loop-link l = l.arrows.items ≡ l.fn.arrows.items ++ red_links l.numbered l.nodes (take l.link-index l.links)

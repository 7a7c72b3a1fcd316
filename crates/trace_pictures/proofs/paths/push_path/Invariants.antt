use Rattle.std.proofs.Common.{◌≡◌, drop}
use Rattle.std.specs.List.{fold}
use Rattle.trace_pictures.specs.Paths.{with_orange}
use Rattle.trace_pictures.proofs.paths.push_path.Given as goal

abbrev pub invariant-loop-edge : goal.invariant-loop-edge
invariant-loop-edge l = fold (with_orange l.nodes l.links) l.orange.items (drop l.edge-index l.edge-items) ≡ fold (with_orange l.nodes l.links) l.fn.orange.items l.edge-items

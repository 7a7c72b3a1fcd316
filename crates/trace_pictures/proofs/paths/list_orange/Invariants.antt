use Rattle.std.proofs.Common.{◌≡◌, drop}
use Rattle.std.specs.List.{fold}
use Rattle.trace_pictures.specs.Paths.{orange_links, with_path}
use Rattle.trace_pictures.proofs.paths.list_orange.Given as goal

abbrev pub invariant-loop-link : goal.invariant-loop-link
invariant-loop-link l = fold (with_path l.numbered l.nodes l.links) l.orange.items (drop l.link-index l.links) ≡ orange_links l.numbered l.nodes l.links

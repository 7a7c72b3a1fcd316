use Rattle.std.proofs.Common.{◌≡◌, take}
use Rattle.trace_pictures.specs.FieldArrows.{field_links}
use Rattle.trace_pictures.proofs.field_arrows.list_field_links.Given as goal

abbrev pub invariant-loop-link : goal.invariant-loop-link
invariant-loop-link l = l.arrows.items ≡ field_links l.trace l.numbered l.nodes (take l.link-index l.links)

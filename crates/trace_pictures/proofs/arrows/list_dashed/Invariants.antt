use Rattle.std.proofs.Common.{◌≡◌}
use Rattle.std.specs.List.{filter, range_with_len}
use Rattle.trace_pictures.specs.Arrows.{is_dashed}
use Rattle.trace_pictures.proofs.arrows.list_dashed.Given as goal

abbrev pub invariant-loop-k : goal.invariant-loop-k
invariant-loop-k l = l.places.items ≡ filter (is_dashed l.steps l.nodes l.shown) (range_with_len 0 l.k)

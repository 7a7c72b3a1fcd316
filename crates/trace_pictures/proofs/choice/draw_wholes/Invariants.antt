use Rattle.std.proofs.Common.{◌≡◌, [], drop}
use Rattle.std.specs.List.{fold}
use Rattle.trace_pictures.specs.Choice.{with_whole}
use Rattle.trace_pictures.proofs.choice.draw_wholes.Given as goal

abbrev pub invariant-loop-n : goal.invariant-loop-n
invariant-loop-n l = fold (with_whole l.placed) l.drawn.items (drop l.n-index l.wanted) ≡ fold (with_whole l.placed) [] l.wanted

use Rattle.std.specs.List.{All}
use Rattle.tso_ops.specs.Values.{rows}
use Rattle.log_selections.specs.Shown.{AreLinesOf}
use Rattle.log_selections.specs.Internal.Ascents.{IsUpTo}
use Rattle.log_selections.proofs.shown.show_places.Given as goal

abbrev pub invariant-loop-place : goal.invariant-loop-place
invariant-loop-place l = AreLinesOf (rows l.fn.lists) l.shown.items × All (IsUpTo l.line) l.shown.items

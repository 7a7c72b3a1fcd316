use Rattle.std.proofs.Common.{◌≡◌, drop, map}
use Rattle.trace_explanation.specs.CycleShapes.{name_of}
use Rattle.trace_explanation.specs.Internal.Tables.{row_of}
use Rattle.trace_explanation.proofs.cycle_names.name_among.Given as goal

-- those before have other shapes
abbrev pub invariant-loop-cycle : goal.invariant-loop-cycle
invariant-loop-cycle l = name_of l.shape (map row_of (drop l.cycle-index l.cycles)) ≡ name_of l.shape (map row_of l.cycles)

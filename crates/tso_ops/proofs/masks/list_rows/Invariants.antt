use Rattle.tso_ops.specs.Values.{rows}
use Rattle.tso_ops.specs.Internal.MaskTables.{AreMaskRowsAmong, HasEventRow}
use Rattle.tso_ops.proofs.masks.list_rows.Given as goal

abbrev pub invariant-loop-k : goal.invariant-loop-k
invariant-loop-k l = AreMaskRowsAmong (HasEventRow l.events l.kind) l.k (rows l.table.items)

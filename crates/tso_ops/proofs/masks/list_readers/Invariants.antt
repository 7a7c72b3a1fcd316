use Rattle.tso_ops.specs.Values.{rows}
use Rattle.tso_ops.specs.Internal.MaskTables.{AreMaskRowsAmong, HasSourceRow}
use Rattle.tso_ops.proofs.masks.list_readers.Given as goal

abbrev pub invariant-loop-k : goal.invariant-loop-k
invariant-loop-k l = AreMaskRowsAmong (HasSourceRow l.sources) l.k (rows l.table.items)

use Rattle.tso_ops.specs.Internal.Tables.{FindsStores}
use Rattle.tso_ops.proofs.tables.stores_by_value.Given as goal

abbrev pub invariant-loop-k : goal.invariant-loop-k
invariant-loop-k l = FindsStores l.events l.k l.stores

-- What the rules look up by chains.
use Rattle.tso_ops.specs.Values.{TraceValue}
use Rattle.chain_reach.specs.declared.types.Groups.{Groups}
use Rattle.chain_rules.specs.declared.types.RuleTables.{RuleTables}
use Rattle.chain_rules.specs.Internal.Tables.{HasTables}

-- The tables are the trace's, for these chains: its loads and stores by processor and address; the stores of its swaps by chain; and for each load
-- and each chain the least source, in the chain, of the load and the program-later loads of its address, or the number of numbers where none is.
unfoldable pub AreTablesOf : TraceValue → Groups → RuleTables → Type 0
AreTablesOf t chains tables = HasTables t chains tables

use Rattle.std.proofs.Common.{take}
use Rattle.value_texts.specs.Internal.Tables.{HasNumbers}
use Rattle.value_texts.proofs.tables.list_numbers.Given as goal

-- the table has the names so far
abbrev pub invariant-loop-k : goal.invariant-loop-k
invariant-loop-k l = HasNumbers (take l.k l.names) l.numbers

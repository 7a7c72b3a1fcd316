-- Which pairs of numbers a table has.
use Rattle.std.specs.Prelude.{◌≡◌, ℕ, ◌+◌, ◌*◌, ◌/◌, ◌^◌, ◌<◌, length}
use Rattle.bitsets.specs.Tables.{IsSet}
use Rattle.cert_check.specs.declared.pair_tables.PairTable.{PairTable}

-- The table has a row for each number below `nodes`, with a bit for each of these numbers.
pub record IsSquare (table : PairTable) : Type 0 where
  pub small : table.nodes < 2 ^ 32
  pub fits : table.width ≡ (table.nodes + 63) / 64
  pub sized : length table.words.items ≡ table.nodes * table.width

-- the pair's bit is set, in the row of its first number
abbrev pub HasPair : PairTable → ℕ → ℕ → Type 0
HasPair table u v = (u < table.nodes) × (v < table.nodes) × IsSet table.words.items table.width u v

use Rattle.std.proofs.Common.{ℕ, ◌<◌, []}
use Rattle.std.specs.Prelude.{Contains, get_or}
use Rattle.tso_ops.specs.Values.{rows}
use Rattle.chain_rules.proofs.rounds.are_empty.Given as goal

-- the rows passed have no number
abbrev pub invariant-loop-row : goal.invariant-loop-row
invariant-loop-row l = (i v : ℕ) → i < l.row-index → Contains (get_or (rows l.made) i []) v → ⊥

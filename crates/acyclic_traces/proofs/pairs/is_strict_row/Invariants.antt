use Rattle.std.proofs.Common.{ℕ}
use Rattle.bitsets.specs.Rows.{HasBit}
use Rattle.acyclic_traces.specs.Internal.Rows.{IsCovered}
use Rattle.acyclic_traces.proofs.PairFacts.{Looked}
use Rattle.acyclic_traces.proofs.pairs.is_strict_row.Given as goal

-- what is left are pairs, and the others are covered
abbrev pub invariant-loop-left : goal.invariant-loop-left
invariant-loop-left l = ((k : ℕ) → HasBit l.left k → HasBit l.row k) × Looked l.row l.left (IsCovered l.rows l.u)

abbrev pub decreases-loop-left : goal.decreases-loop-left
decreases-loop-left l = l.left

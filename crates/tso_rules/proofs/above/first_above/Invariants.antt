use Rattle.std.proofs.Common.{ℕ, ◌/◌, ◌<◌}
use Rattle.tso_rules.specs.Internal.MaskTables.{IsCommonAbove}
use Rattle.tso_rules.proofs.above.first_above.Given as goal

-- no number of the passed words is one
abbrev pub invariant-loop-j : goal.invariant-loop-j
invariant-loop-j l = (k : ℕ) → k / 64 < l.j → IsCommonAbove l.one l.two l.other l.n k → ⊥

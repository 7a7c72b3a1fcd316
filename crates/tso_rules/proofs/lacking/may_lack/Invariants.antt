use Rattle.std.proofs.Common.{ℕ, ◌/◌, ◌%◌, ◌<◌}
use Rattle.bitsets.specs.Rows.{HasBit, HasNumber}
use Rattle.tso_rules.proofs.lacking.may_lack.Given as goal

-- the numbers of the passed words that the other row lacks leave a bit
abbrev pub invariant-loop-j : goal.invariant-loop-j
invariant-loop-j l = (v : ℕ) → v / 64 < l.j → HasNumber l.row v → (HasNumber l.other v → ⊥) → HasBit l.lacking (v % 64)

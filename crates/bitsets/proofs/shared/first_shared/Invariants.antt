use Rattle.std.proofs.Common.{ℕ, ◌/◌, ◌<◌}
use Rattle.bitsets.specs.Tables.{IsSet}
use Rattle.bitsets.proofs.shared.first_shared.Given as goal

abbrev pub invariant-loop-j : goal.invariant-loop-j
invariant-loop-j l = (y : ℕ) → y / 64 < l.j → y / 64 < l.table.width → IsSet l.table.words.now l.table.width l.x y → IsSet l.other l.table.width l.row y → ⊥

use Rattle.std.proofs.Common.{ℕ, ◌/◌, ◌<◌, ◌≤◌}
use Rattle.bitsets.specs.Tables.{IsSet}
use Rattle.bitsets.proofs.shared.used_words.Given as goal

abbrev pub invariant-loop-j : goal.invariant-loop-j
invariant-loop-j l = (l.high ≤ l.j) × ((y : ℕ) → y / 64 < l.j → IsSet l.table.words.now l.table.width l.row y → (l.low ≤ y / 64) × (y / 64 < l.high))

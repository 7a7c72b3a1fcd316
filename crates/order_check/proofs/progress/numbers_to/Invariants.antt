use Rattle.std.proofs.Common.{◌↔◌, ℕ, ◌<◌}
use Rattle.bitsets.specs.Rows.{HasNumber}
use Rattle.order_check.proofs.progress.numbers_to.Given as goal

abbrev pub invariant-loop-n : goal.invariant-loop-n
invariant-loop-n l = (v : ℕ) → HasNumber l.row.items v ↔ ((0 < v) × (v < l.n))

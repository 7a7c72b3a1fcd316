use Rattle.std.proofs.Common.{ℕ, ◌↔◌, ◌≤◌, length}
use Rattle.bitsets.specs.Rows.{HasNumber}
use Rattle.bitsets.proofs.marks.extend.Given as goal

-- the row is as long as the number of passes says, and has the numbers that it had
abbrev pub invariant-loop : goal.invariant-loop
invariant-loop l = (l.counter ≤ length l.row.items) × ((v : ℕ) → HasNumber l.row.items v ↔ HasNumber l.fn.row.items v)

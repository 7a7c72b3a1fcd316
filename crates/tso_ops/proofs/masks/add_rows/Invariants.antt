use Rattle.std.proofs.Common.{ℕ, ◌≡◌, ◌≤◌, [], length, get_or}
use Rattle.tso_ops.specs.Values.{rows}
use Rattle.tso_ops.proofs.masks.add_rows.Given as goal

-- the table is as long as the number of passes says, and has the rows that it had
abbrev pub invariant-loop : goal.invariant-loop
invariant-loop l = (l.counter ≤ length l.table.items) × ((r : ℕ) → get_or (rows l.table.items) r [] ≡ get_or (rows l.fn.table.items) r [])

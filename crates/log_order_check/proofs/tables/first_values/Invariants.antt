use Rattle.std.proofs.Common.{◌≡◌, ℕ, ◌≤◌, length, drop}
use Rattle.tso_ops.specs.Settings.{first_value}
use Rattle.log_order_check.specs.Internal.Tables.{looked_up}
use Rattle.log_order_check.proofs.tables.first_values.Given as goal

abbrev pub decreases-loop-left : goal.decreases-loop-left
decreases-loop-left l = l.left

-- the map has the first values of the entries that were put into it
abbrev pub invariant-loop-left : goal.invariant-loop-left
invariant-loop-left l = (l.left ≤ length l.first) × ((a : ℕ) → looked_up l.values a ≡ first_value (drop l.left l.first) a)

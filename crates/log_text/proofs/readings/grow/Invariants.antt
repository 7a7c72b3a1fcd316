use Rattle.std.proofs.Common.{◌≡◌, ℕ, [], ◌+◌, ◌-◌, ◌≤◌, get_or, length, max}
use Rattle.tso_ops.specs.Values.{rows}
use Rattle.log_text.proofs.readings.grow.Given as goal

abbrev pub invariant-loop-alloc : goal.invariant-loop-alloc
invariant-loop-alloc l = record {
  longer : length (rows l.fn.lists.items) ≤ length (rows l.lists.items);
  within : length (rows l.lists.items) ≤ max (l.fn.p + 1) (length (rows l.fn.lists.items));
  same : (q : ℕ) → get_or (rows l.lists.items) q [] ≡ get_or (rows l.fn.lists.items) q [];
}

abbrev pub decreases-loop-alloc : goal.decreases-loop-alloc
decreases-loop-alloc l = l.fn.p + 1 - length l.lists.items

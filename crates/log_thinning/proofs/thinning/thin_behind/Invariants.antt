use Rattle.std.proofs.Common.{None, ◌≡◌, ◌≤◌, ◌++◌, drop, length}
use Rattle.log_thinning.specs.Thinned.{thinned_behind}
use Rattle.log_thinning.proofs.thinning.thin_behind.Given as goal

-- what was kept, and what will be kept of the rest
abbrev pub invariant-loop-logged : goal.invariant-loop-logged
invariant-loop-logged l =
    (l.left.items ++ thinned_behind l.last (drop l.logged-index l.list) ≡ thinned_behind None l.fn.list) × (length l.left.items ≤ l.logged-index)

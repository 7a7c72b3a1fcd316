use Rattle.std.proofs.Common.{◌≡◌, ◌≤◌, ◌-◌, drop, length, reverse}
use Rattle.log_thinning.specs.Thinned.{next_load, thinned_before}
use Rattle.log_thinning.proofs.thinning.thin_before.Given as goal

-- what was kept of the last operations
abbrev pub invariant-loop-done : goal.invariant-loop-done
invariant-loop-done l =
    let rest = drop (length l.fn.list - l.done) l.fn.list in
    (l.reversed.items ≡ reverse (thinned_before rest)) × (l.next ≡ next_load rest) × (length l.reversed.items ≤ l.done)

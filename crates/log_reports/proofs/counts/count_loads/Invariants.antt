use Rattle.std.proofs.Common.{◌≡◌, ◌≤◌, map, take}
use Rattle.log_reports.specs.LogCounts.{loads_of}
use Rattle.log_reports.proofs.counts.count_loads.Given as goal

abbrev pub invariant-loop-logged : goal.invariant-loop-logged
invariant-loop-logged l = (l.loads ≡ loads_of (map (λ x. x.operation) (take l.logged-index l.fn.list))) × (l.loads ≤ l.logged-index)

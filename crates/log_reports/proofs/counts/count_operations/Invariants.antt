use Rattle.std.proofs.Common.{◌≡◌, length, map, take}
use Rattle.std.specs.List.{flat_map}
use Rattle.tso_ops.specs.Values.{rows}
use Rattle.log_reports.specs.LogCounts.{loads_of}
use Rattle.log_reports.proofs.counts.count_operations.Given as goal

abbrev pub invariant-loop-list : goal.invariant-loop-list
invariant-loop-list l =
    let before = flat_map (map (λ x. x.operation)) (take l.list-index (rows l.fn.log.lists.items)) in
    (l.operations ≡ length before) × (l.loads ≡ loads_of before)

use Rattle.std.proofs.Common.{◌≡◌, ◌+◌, length, map, take}
use Rattle.std.specs.List.{sum_by}
use Rattle.tso_ops.specs.Values.{rows}
use Rattle.log_thinning.specs.Thinned.{thinned_list}
use Rattle.log_thinning.proofs.thinning.thin.Given as goal

-- what is left of the lists so far, and how much was dropped
abbrev pub invariant-loop-list : goal.invariant-loop-list
invariant-loop-list l =
    let before = take l.list-index (rows l.fn.log.lists.items) in
    (rows l.lists.items ≡ map thinned_list before) × (l.dropped + sum_by length (rows l.lists.items) ≡ sum_by length before)

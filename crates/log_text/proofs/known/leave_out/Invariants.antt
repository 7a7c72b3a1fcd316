use Rattle.std.proofs.Common.{◌≡◌, map, take}
use Rattle.std.specs.List.{count_by, sum_by}
use Rattle.tso_ops.specs.Values.{rows}
use Rattle.log_text.specs.LogTexts.{is_operation_at, without_addresses}
use Rattle.log_text.proofs.known.leave_out.Given as goal

abbrev pub invariant-loop-list : goal.invariant-loop-list
invariant-loop-list l =
    let before = take l.list-index (rows l.fn.log.lists.items) in
    (rows l.lists.items ≡ map (without_addresses l.fn.addresses) before) × (l.left_out ≡ sum_by (count_by (is_operation_at l.fn.addresses)) before)

use Rattle.std.proofs.Common.{◌∙◌, ◌+◌, ap}
use Rattle.std.specs.List.{count_by}
use Rattle.tso_ops.specs.Values.{rows}
use Rattle.log_text.specs.LogTexts.{is_operation_at, without_addresses}
use Rattle.log_text.proofs.LeftOutFacts.{rows_next, sum_next}
use Rattle.log_text.proofs.known.leave_out.Goals as goal

pub loop-list-preserved : goal.loop-list-preserved
loop-list-preserved c =
    let all = c.args.addresses.now in
    let lists = c.deref-list-items.ensures.value in
    let within = rw lists at c.loop-list-test.true in
    let kept = c.deref-in-loop-list.ensures.value ∙ ap (λ v. v.items) (rw lists at c.list-item.is) in
    let items = c.deref.ensures.value ∙ ap (λ v. v.items) (rw lists at c.list-item.is) in (
      ap rows c.in_ok-push.ensures.items
          ∙ rows_next (without_addresses all) c.args.log.lists.items c.loop-list.lists.items c.in_ok-operations_elsewhere.field-0 c.loop-list.list-index _ within c.loop-list.invariant.0
          (c.in_ok-operations_elsewhere.ensures all c.in_ok-addresses.ensures ∙ ap (without_addresses all) kept),
      c.in_ok-left_out.ensures ∙ ap (λ n. c.loop-list.left_out + n) (c.count_at-count.ensures all c.in_ok-addresses.ensures ∙ ap (count_by (is_operation_at all)) items)
          ∙ sum_next (count_by (is_operation_at all)) c.args.log.lists.items c.loop-list.list-index _ c.loop-list.left_out within c.loop-list.invariant.1,
    )

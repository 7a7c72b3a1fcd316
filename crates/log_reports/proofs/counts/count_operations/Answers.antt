use Rattle.std.proofs.Common.{◌∙◌, ◌+◌, ap, length, map, refl, sym}
use Rattle.log_reports.proofs.CountFacts.{length_more, loads_more_of_list}
use Rattle.log_reports.specs.LogCounts.{loads_of}
use Rattle.log_reports.proofs.counts.count_operations.Goals as goal

pub loop-list-preserved : goal.loop-list-preserved
loop-list-preserved c =
    let lists = c.deref-list-items.ensures.value in
    let within = rw lists at c.loop-list-test.true in
    let items = c.deref.ensures.value ∙ ap (λ v. v.items) (rw lists at c.list-item.is) in (
      c.in_ok-operations.ensures ∙ ap (λ n. c.loop-list.operations + n) (c.len.ensures ∙ sym c.deref.ensures.len ∙ ap length items)
          ∙ length_more c.args.log.now.lists.items c.loop-list.list-index _ within _ refl c.loop-list.operations c.loop-list.invariant.0,
      c.in_ok-loads.ensures ∙ ap (λ n. c.loop-list.loads + n) (c.count_loads.ensures ∙ ap (λ xs. loads_of (map (λ x. x.operation) xs)) items)
          ∙ loads_more_of_list c.args.log.now.lists.items c.loop-list.list-index _ within _ refl c.loop-list.loads c.loop-list.invariant.1,
    )

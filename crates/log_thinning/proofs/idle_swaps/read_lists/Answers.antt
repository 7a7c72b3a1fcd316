use Rattle.std.proofs.Common.{◌∙◌, ap}
use Rattle.std.specs.List.{flat_map}
use Rattle.tso_ops.specs.Values.{rows}
use Rattle.log_text.proofs.LeftOutFacts.{rows_next}
use Rattle.log_thinning.specs.IdleSwaps.{read_of}
use Rattle.log_thinning.proofs.idle_swaps.read_lists.Goals as goal

pub loop-list-preserved : goal.loop-list-preserved
loop-list-preserved c =
    let items = c.deref.ensures.value ∙ ap (λ v. v.items) c.list-item.is in
    ap rows c.in_ok-push.ensures.items
    ∙ rows_next (flat_map read_of) c.args.lists.now c.loop-list.read.items c.in_ok-read_list.field-0 c.loop-list.list-index _ c.loop-list-test.true c.loop-list.invariant
    (c.in_ok-read_list.ensures ∙ ap (flat_map read_of) items)

use Rattle.std.proofs.Common.{◌≤◌, ◌∙◌, ap, arith, length}
use Rattle.std.specs.Global.{Vec}
use Rattle.std.proofs.lemmas.List.{length-map, map-id, take_all}
use Rattle.tso_ops.specs.Values.{rows}
use Rattle.log_text.specs.declared.logs.LoggedOperation.{LoggedOperation}
use Rattle.log_text.proofs.LeftOutFacts.{rows_next}
use Rattle.log_thinning.proofs.idle_swaps.copy_lists.Goals as goal

pub loop-list-preserved : goal.loop-list-preserved
loop-list-preserved c =
    let items = c.in_ok-from_slice.ensures.items ∙ c.deref.ensures.value ∙ ap (λ v. v.items) c.list-item.is in
    ap rows c.in_ok-push.ensures.items
    ∙ rows_next (λ xs. xs) c.args.lists.now c.loop-list.copied.items c.in_ok-from_slice.field-0 c.loop-list.list-index _ c.loop-list-test.true c.loop-list.invariant items

pub returns : goal.returns
returns c =
    let lists = c.args.lists.now in
    let size = length-map lists (λ (row : Vec LoggedOperation). row.items) in
    let whole : length (rows lists) ≤ c.loop-list.list-index = omega (arith, size, c.loop-list-test.false) in
    c.loop-list.invariant ∙ map-id _ ∙ take_all c.loop-list.list-index (rows lists) whole

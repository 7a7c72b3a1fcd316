use Rattle.std.proofs.Common.{◌++◌, ◌∙◌, ap}
use Rattle.std.specs.List.{flat_map}
use Rattle.log_selections.specs.Unwritten.{stored_at}
use Rattle.log_selections.proofs.StoreFacts.{stores_more}
use Rattle.log_selections.proofs.unwritten.stores_to.Goals as goal

pub loop-list-preserved : goal.loop-list-preserved
loop-list-preserved c =
    stores_more c.args.lists.now c.args.a c.loop-list.list-index _ c.loop-list.stores.items c.push_stores.new.stores.items c.loop-list-test.true c.loop-list.invariant
    (c.in_ok-push_stores.ensures ∙ ap (λ xs. c.loop-list.stores.items ++ flat_map (stored_at c.args.a) xs) (c.deref.ensures.value ∙ ap (λ v. v.items) c.list-item.is))

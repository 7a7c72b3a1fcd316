use Rattle.std.proofs.Common.{◌∙◌, ◌++◌, ap}
use Rattle.std.specs.List.{flat_map}
use Rattle.value_texts.specs.Names.{names_in}
use Rattle.value_texts.proofs.PrintFacts.{list-named}
use Rattle.value_texts.proofs.names.names_of.Goals as goal

pub loop-list-preserved : goal.loop-list-preserved
loop-list-preserved c =
    let is = c.deref-list-items.ensures.value in
    list-named c.args.log.now.lists.items c.loop-list.list-index c.list-item.result c.loop-list.names.items c.push_list.new.names.items (rw is at c.loop-list-test.true) (rw is at c.list-item.is) c.loop-list.invariant
    (c.in_ok-push_list.ensures ∙ ap (λ row. c.loop-list.names.items ++ flat_map names_in row) c.deref.ensures.value)

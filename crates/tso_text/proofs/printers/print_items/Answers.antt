use Rattle.std.proofs.lemmas.List.{take_all}
use Rattle.tso_text.proofs.PrintFacts.{items_text-none, items_text-more}
use Rattle.tso_text.proofs.printers.print_items.Goals as goal

pub loop-item-init : goal.loop-item-init
loop-item-init g c = items_text-none g.T.Form.tokens _ c.args.items.now

pub loop-item-preserved : goal.loop-item-preserved
loop-item-preserved g c =
    items_text-more g.T.Form.tokens _ _ _ c.args.items.now c.loop-item.item-index c.item-item.result c.item-item.result c.loop-item-test.true c.item-item.is c.loop-item.invariant c.in_ok-print.ensures

pub returns : goal.returns
returns g c = rw (take_all c.loop-item.item-index c.args.items.now c.loop-item-test.false) at c.loop-item.invariant

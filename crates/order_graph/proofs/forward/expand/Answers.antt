use Rattle.std.proofs.Common.{refl}
use Rattle.order_graph.proofs.Reached.{GoesOn-step}
use Rattle.order_graph.proofs.forward.expand.Goals as goal

pub loop-j-preserved : goal.loop-j-preserved
loop-j-preserved c =
    let a = c.args in
    GoesOn-step a.edges.words.now a.mask.now a.reached.now c.loop-j.reached c.set_word-fresh.new.table a.left.now c.loop-j.left c.set_word.new.table a.edges.width a.x c.loop-j.j _ c.set_word-fresh.result
    c.loop-j.invariant c.loop-j-test.true refl c.set_word-fresh.ensures.added c.set_word-fresh.ensures.fresh c.set_word.ensures.added

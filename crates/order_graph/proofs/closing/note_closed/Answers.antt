use Rattle.std.proofs.Common.{refl}
use Rattle.order_graph.proofs.ClosingFacts.{ClosedFrom-step}
use Rattle.order_graph.proofs.closing.note_closed.Goals as goal

pub loop-j-preserved : goal.loop-j-preserved
loop-j-preserved c =
    let a = c.args in
    ClosedFrom-step a.row.now c.loop-j.row c.set_word.new.table a.tables.edges.now a.tables.transposed.now a.upto.now a.tables.width a.x c.loop-j.j _ c.loop-j.invariant refl c.set_word.ensures.added

use Rattle.std.proofs.Common.{arith}
use Rattle.order_graph.proofs.AddedBits.{SpreadFrom-step}
use Rattle.order_graph.proofs.joining.add_row.Goals as goal

pub loop-j-preserved : goal.loop-j-preserved
loop-j-preserved c =
    let a = c.args in
    SpreadFrom-step a.table.now c.loop-j.table c.set_word.new.table a.width a.x a.v c.loop-j.j c.with_bit-given.result c.loop-j.invariant (omega arith) c.with_bit-given.ensures c.set_word.ensures.added

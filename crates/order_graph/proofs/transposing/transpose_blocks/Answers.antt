use Rattle.std.proofs.Common.{◌≡◌, subst, arith}
use Rattle.bitsets.specs.Tables.{Adds}
use Rattle.order_graph.proofs.TransposedBlocks.{BlocksBefore}
use Rattle.order_graph.proofs.transposing.transpose_blocks.Goals as goal

pub returns : goal.returns
returns c =
    let a = c.args in
    let done : c.loop-j.j ≡ a.end = omega arith in
    subst (λ n. Adds a.transposed.now c.loop-j.transposed a.table.width (BlocksBefore a.table.words.now a.table.width a.nodes a.i a.first n)) done c.loop-j.invariant

use Rattle.std.proofs.Common.{◌≡◌, min, sym, subst, arith}
use Rattle.order_graph.proofs.TransposedBlocks.{TransposesBefore, TransposesBefore-start}
use Rattle.order_graph.proofs.transposing.transposed_table.Goals as goal

pub loop-k-init : goal.loop-k-init
loop-k-init c =
    let none : min 0 c.args.table.width ≡ 0 = omega arith in
    subst (λ n. TransposesBefore c.args.table.words.now c.in_ok-transposed.transposed.items c.args.table.width c.args.nodes n) (sym none)
    (TransposesBefore-start c.args.table.words.now c.in_ok-transposed.transposed.items c.args.table.width c.args.nodes (c.in_ok-transposed.ensures.items_if_clones_equal (λ y e. e)))

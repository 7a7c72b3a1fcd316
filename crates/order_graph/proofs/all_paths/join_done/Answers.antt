use Rattle.std.proofs.Common.{◌<◌, ◌+◌, ◌*◌, inl, inr, refl, arith, rules}
use Rattle.std.specs.Int.{trailing_zeros, w64}
use Rattle.bitsets.proofs.WordFacts.{HasBit-lowest}
use Rattle.bitsets.proofs.TableFacts.{row_within}
use Rattle.order_graph.proofs.AllPaths.{JoinsDone-start, JoinsDone-step, left_less}
use Rattle.order_graph.proofs.all_paths.join_done.Goals as goal

pub loop-left-init : goal.loop-left-init
loop-left-init c =
    let a = c.args in
    JoinsDone-start a.nodes a.edges.width a.edges.words.now a.paths.now a.done.now a.x a.j _ c.requires.paths

pub add_row-requires-clause-given : goal.add_row-requires-clause-given
add_row-requires-clause-given c =
    let a = c.args in
    let v = 64 * a.j + trailing_zeros w64 c.loop-left.left in
    let low = HasBit-lowest c.loop-left.left (omega arith) (omega arith) in
    let bound : trailing_zeros w64 c.loop-left.left < 64 = low.0 in
    let given = c.loop-left.invariant.given (trailing_zeros w64 c.loop-left.left) low.0 low.1 in
    let below : v < a.nodes = c.requires.edges.within a.x v c.requires.row (omega arith) given.0 in
    omega (arith, row_within v a.nodes a.edges.width below, c.loop-left.invariant.done_paths.some.sized)

pub loop-left-smaller : goal.loop-left-smaller
loop-left-smaller c =
    let a = c.args in
    let v = 64 * a.j + trailing_zeros w64 c.loop-left.left in
    let low = HasBit-lowest c.loop-left.left (omega arith) (omega arith) in
    let bound : trailing_zeros w64 c.loop-left.left < 64 = low.0 in
    left_less a.edges.width c.add_row.new.table a.x a.j c.loop-left.left (omega arith) (omega arith) (search rules) ((c.add_row.ensures.bits a.x v (omega arith)).1 (inr (refl, inl refl)))

pub loop-left-preserved : goal.loop-left-preserved
loop-left-preserved c =
    let a = c.args in
    JoinsDone-step a.nodes a.edges.width a.edges.words.now c.loop-left.paths c.add_row.new.table a.done.now a.x a.j c.loop-left.left c.requires.edges c.loop-left.invariant c.requires.not_done c.requires.row c.requires.word
    (omega arith) (omega arith) (omega arith) c.add_row.ensures

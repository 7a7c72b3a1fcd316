use Rattle.std.proofs.Common.{◌≡◌, ◌<◌, ◌+◌, ◌*◌, ◌%◌, ◌/◌, subst, sym, arith, slice_index_or}
use Rattle.bitsets.specs.Rows.{HasBit}
use Rattle.bitsets.proofs.TableFacts.{IsSet-word, row_within}
use Rattle.order_graph.proofs.ClosingFacts.{NextFrom-step}
use Rattle.order_graph.proofs.closing.spread.Goals as goal

pub or_rows-requires-clause-within : goal.or_rows-requires-clause-within
or_rows-requires-clause-within c = λ k h b.
    let a = c.args in
    let word = slice_index_or a.levels.now (a.count * a.edges.width + c.loop-i.i) 0 in
    let m : (64 * c.loop-i.i + k) % 64 ≡ k = omega arith in
    let at : (64 * c.loop-i.i + k) / 64 ≡ c.loop-i.i = omega arith in
    let set = (IsSet-word a.levels.now a.edges.width a.count c.loop-i.i (64 * c.loop-i.i + k) at).1 (subst (λ n. HasBit word n) (sym m) b) in
    let below : 64 * c.loop-i.i + k < a.nodes = c.requires.within (64 * c.loop-i.i + k) (omega arith) set in
    omega (arith, row_within (64 * c.loop-i.i + k) a.nodes a.edges.width below, c.requires.sized)

pub loop-i-preserved : goal.loop-i-preserved
loop-i-preserved c =
    let a = c.args in
    NextFrom-step a.reached.now c.loop-i.reached c.or_rows.new.table a.edges.words.now a.levels.now a.edges.width a.count a.first c.loop-i.i (omega arith) (omega arith)
    c.loop-i.invariant c.or_rows.ensures

use Rattle.std.proofs.Common.{refl, rules}
use Rattle.order_graph.proofs.GrownFacts.{missing_start, missing_step, missing_end}
use Rattle.order_graph.proofs.grown.mark_grown.Goals as goal

pub loop-i-init : goal.loop-i-init
loop-i-init c = missing_start c.args.grown.now c.args.transposed.words.now c.args.transposed.width c.args.u c.args.v

pub loop-i-preserved : goal.loop-i-preserved
loop-i-preserved c =
    missing_step c.args.grown.now c.loop-i.grown c.set_word.new.table c.args.transposed.words.now c.args.transposed.width c.args.u c.args.v c.loop-i.i c.with_bit-sources.result _
    c.loop-i.invariant refl (search rules) c.with_bit-sources.ensures c.set_word.ensures.added

pub returns : goal.returns
returns c = missing_end c.args.grown.now c.loop-i.grown c.args.transposed.words.now c.args.transposed.width c.args.u c.args.v c.loop-i.i c.loop-i-test.false c.loop-i.invariant

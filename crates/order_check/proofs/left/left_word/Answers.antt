use Rattle.std.proofs.Common.{arith}
use Rattle.order_check.proofs.LeftFacts.{left_bit}
use Rattle.order_check.proofs.left.left_word.Goals as goal

pub returns : goal.returns
returns c = λ u at.
    left_bit c.args.left.now c.args.chosen.one.now c.args.chosen.two.now c.args.chosen.other.now c.args.n c.args.j c.word_at.result c.word_at-2.result c.word_at-3.result c.word_at-4.result
    c.word_above.result u at c.word_at.ensures c.word_at-2.ensures c.word_at-3.ensures c.word_at-4.ensures (omega arith) (omega arith) c.word_above.ensures

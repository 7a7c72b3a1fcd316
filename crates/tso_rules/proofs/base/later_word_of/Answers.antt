use Rattle.tso_rules.proofs.BaseFacts.{later_bit}
use Rattle.tso_rules.proofs.base.later_word_of.Goals as goal

pub returns : goal.returns
returns c = λ k low.
    later_bit c.args.trace.now c.args.u c.args.event c.processor_words-processor.result.now c.args.j c.word_at.result c.word_above.result c.ordered_word.result k low c.requires
    c.processor_words-processor.ensures c.word_at.ensures (c.word_above.ensures k low) (c.ordered_word.ensures k low)

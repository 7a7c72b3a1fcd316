use Rattle.std.proofs.Common.{◌∙◌, get_or, refl, sym, arith}
use Rattle.std.proofs.lemmas.Nat.{and_le_l}
use Rattle.tso_cert.specs.declared.rules.BaseRule.TheVariants.{Read}
use Rattle.tso_model.specs.Rules.{BasePair}
use Rattle.tso_rules.proofs.BaseFacts.{readers_more}
use Rattle.bitsets.proofs.MarkFacts.{earlier_words_all}
use Rattle.bitsets.proofs.RowFacts.{HasNumber-within}
use Rattle.tso_rules.proofs.base.mark_readers.Goals as goal

pub loop-j-preserved : goal.loop-j-preserved
loop-j-preserved c =
    let readers = c.reader_words-readers.result.now in
    readers_more c.args.trace.now c.args.u c.in-Some.event c.args.marks.now.items c.loop-j.marks.items c.mark_word.new.marks.items readers c.processor_words-processor.result.now c.loop-j.j
    (get_or readers c.loop-j.j 0) c.word_at.result c.word_above.result (sym c.event.ensures ∙ c.in-Some.is) c.if-event.false c.reader_words-readers.ensures c.processor_words-processor.ensures
    c.loop-j.invariant c.in_ok-mark_word.ensures refl c.word_at.ensures (omega (arith, and_le_l c.word_at.result c.word_above.result)) c.word_above.ensures

pub returns : goal.returns
returns c =
    let readers = c.reader_words-readers.result.now in
    earlier_words_all c.args.marks.now.items c.loop-j.marks.items c.loop-j.j (BasePair c.args.trace.now Read c.args.u) c.loop-j.invariant
    (λ v read. let low = HasNumber-within readers v ((c.reader_words-readers.ensures.bits v).1 read.1) in omega (arith, low, c.loop-j-test.false))

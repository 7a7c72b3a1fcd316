use Rattle.std.proofs.Common.{◌∙◌, sym, suc, ◌<◌, arith}
use Rattle.tso_ops.specs.Events.{event_total}
use Rattle.tso_ops.proofs.NumberFacts.{IsLoad-within}
use Rattle.tso_ops.proofs.TableFacts.{source_load}
use Rattle.tso_model.specs.Rules.{IsOwnBy}
use Rattle.tso_rules.proofs.BaseFacts.{own_more}
use Rattle.bitsets.proofs.MarkFacts.{words_by}
use Rattle.tso_rules.proofs.base.mark_own.Goals as goal

pub loop-j-preserved : goal.loop-j-preserved
loop-j-preserved c =
    own_more c.args.trace.now c.args.u c.in-Some.event c.args.marks.now.items c.loop-j.marks.items c.mark_sources.new.marks.items
    c.load_words-loads.result.now c.processor_words-processor.result.now c.loop-j.j c.word_at-in-loop-j.result c.word_at.result c.word_above.result
    (sym c.event.ensures ∙ c.in-Some.is) c.if-event.false c.load_words-loads.ensures c.processor_words-processor.ensures c.loop-j.invariant
    c.in_ok-mark_sources.ensures c.word_at-in-loop-j.ensures c.word_at.ensures c.word_above.ensures

pub returns : goal.returns
returns c =
    let t = c.args.trace.now in
    words_by c.args.marks.now.items c.loop-j.marks.items c.loop-j.j (λ l v. IsOwnBy t l c.args.u v) c.loop-j.invariant
    (λ l v by. let low : l < suc (event_total t) = IsLoad-within t l (source_load t l v by.3) in
    let within = c.word_count-j-end.ensures.count l low in
    omega (arith, within, c.loop-j-test.false))

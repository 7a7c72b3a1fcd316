use Rattle.std.proofs.Common.{◌∙◌, sym, arith}
use Rattle.tso_rules.specs.Rows.{IsLater}
use Rattle.tso_rules.proofs.BaseFacts.{later_is, later_more}
use Rattle.bitsets.proofs.MarkFacts.{earlier_words_all}
use Rattle.bitsets.proofs.RowFacts.{HasNumber-within}
use Rattle.tso_rules.proofs.base.mark_later.Goals as goal

pub loop-j-preserved : goal.loop-j-preserved
loop-j-preserved c =
    later_more c.args.trace.now c.args.u c.args.marks.now.items c.loop-j.marks.items c.mark_word.new.marks.items c.loop-j.j c.later_word_of.result
    c.loop-j.invariant c.in_ok-mark_word.ensures c.later_word_of.ensures

pub returns : goal.returns
returns c =
    let t = c.args.trace.now in
    let processor = c.processor_words-j-end.result.now in
    earlier_words_all c.args.marks.now.items c.loop-j.marks.items c.loop-j.j (IsLater t c.args.u) c.loop-j.invariant
    (λ v later. let of = ((later_is t c.args.u v c.in-Some.event (sym c.event.ensures ∙ c.in-Some.is)).1 later).0.0 in
    let low = HasNumber-within processor v ((c.processor_words-j-end.ensures.bits v).1 of) in omega (arith, low, c.loop-j-test.false))

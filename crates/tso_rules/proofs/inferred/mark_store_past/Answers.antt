use Rattle.std.proofs.Common.{◌∙◌, get_or, sym, refl, arith}
use Rattle.order_graph.specs.Digraphs.{IsEdge}
use Rattle.bitsets.specs.Rows.{HasNumber}
use Rattle.tso_cert.specs.declared.rules.InferredRule.TheVariants.{StorePast}
use Rattle.tso_rules.specs.Internal.MarkedRows.{IsNewRow}
use Rattle.tso_rules.proofs.InferredFacts.{store_past_is}
use Rattle.bitsets.proofs.MarkFacts.{earlier_words_all, earlier_words_kept}
use Rattle.bitsets.proofs.RowFacts.{word_number, HasNumber-within}
use Rattle.tso_rules.proofs.inferred.mark_store_past.Goals as goal

pub loop-j-preserved : goal.loop-j-preserved
loop-j-preserved c =
    let t = c.args.trace.now in
    let Edge = IsEdge c.args.graph.now in
    let from = c.path_row-word-items.result.now in
    let stores = c.store_words-stores.result.now in
    let reached = c.path_row-reached.result.now in
    earlier_words_kept c.args.marks.now.items c.loop-j.marks.items c.mark_word.new.marks.items stores reached c.loop-j.j (get_or from c.loop-j.j 0) c.word_at.result c.word_at-in-loop-j.result
    c.word_without.result c.in-Some-source_number.s (HasNumber from) (IsNewRow t StorePast Edge c.args.u) c.loop-j.invariant c.in_ok-mark_word.ensures
    (λ v at. word_number from c.loop-j.j (get_or from c.loop-j.j 0) v at refl) c.word_at.ensures c.word_at-in-loop-j.ensures (omega arith)
    c.word_without.ensures
    (λ v. store_past_is t Edge c.args.u c.in-Some-source_number.s v c.in-Some.event from stores reached (sym c.event.ensures ∙ c.in-Some.is) c.in-Some-source_number.ensures.is c.in-Some-source_number.ensures.all
    c.path_row-word-items.ensures.paths c.store_words-stores.ensures c.path_row-reached.ensures.paths)

pub returns : goal.returns
returns c =
    let t = c.args.trace.now in
    let Edge = IsEdge c.args.graph.now in
    let from = c.path_row-word-items.result.now in
    let stores = c.store_words-stores.result.now in
    let reached = c.path_row-reached.result.now in
    earlier_words_all c.args.marks.now.items c.loop-j.marks.items c.loop-j.j (IsNewRow t StorePast Edge c.args.u) c.loop-j.invariant
    (λ v new. let is = (store_past_is t Edge c.args.u c.in-Some-source_number.s v c.in-Some.event from stores reached (sym c.event.ensures ∙ c.in-Some.is) c.in-Some-source_number.ensures.is c.in-Some-source_number.ensures.all
    c.path_row-word-items.ensures.paths c.store_words-stores.ensures c.path_row-reached.ensures.paths).1 new in
    let low = HasNumber-within from v is.0.0 in omega (arith, low, c.loop-j-test.false))

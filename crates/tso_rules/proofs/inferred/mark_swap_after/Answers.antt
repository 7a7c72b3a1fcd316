use Rattle.std.proofs.Common.{get_or, refl, arith}
use Rattle.std.proofs.lemmas.Option.{none-some}
use Rattle.order_graph.specs.Digraphs.{IsEdge}
use Rattle.bitsets.specs.Rows.{HasNumber}
use Rattle.tso_cert.specs.declared.rules.InferredRule.TheVariants.{SwapAfter}
use Rattle.tso_rules.specs.Internal.MarkedRows.{IsNewRow}
use Rattle.tso_rules.proofs.InferredFacts.{swap_after_is}
use Rattle.bitsets.proofs.MarkFacts.{earlier_words_all, earlier_words_kept, marks_none}
use Rattle.bitsets.proofs.RowFacts.{word_number, HasNumber-within}
use Rattle.tso_rules.proofs.inferred.mark_swap_after.Goals as goal

pub returns-in_default : goal.returns-in_default
returns-in_default c = marks_none c.args.marks.now.items _ (λ v new. let by = new.1.0.2 in none-some new.0 (c.in_default.ensures.all new.0 by.0 by.1))

pub loop-j-preserved : goal.loop-j-preserved
loop-j-preserved c =
    let t = c.args.trace.now in
    let Edge = IsEdge c.args.graph.now in
    let from = c.path_row-word-items.result.now in
    let stores = c.all_store_words-stores.result.now in
    let reached = c.path_row-reached.result.now in
    earlier_words_kept c.args.marks.now.items c.loop-j.marks.items c.mark_word.new.marks.items stores reached c.loop-j.j (get_or from c.loop-j.j 0) c.word_at.result c.word_at-in-loop-j.result
    c.word_without.result c.args.u (HasNumber from) (IsNewRow t SwapAfter Edge c.args.u) c.loop-j.invariant c.in_ok-mark_word.ensures
    (λ v at. word_number from c.loop-j.j (get_or from c.loop-j.j 0) v at refl) c.word_at.ensures c.word_at-in-loop-j.ensures (omega arith)
    c.word_without.ensures
    (λ v. swap_after_is t Edge c.args.u c.in-Some.l v from stores reached c.in-Some.ensures.is.0 c.in-Some.ensures.is.1 c.path_row-word-items.ensures.paths c.all_store_words-stores.ensures
    c.path_row-reached.ensures.paths)

pub returns : goal.returns
returns c =
    let t = c.args.trace.now in
    let Edge = IsEdge c.args.graph.now in
    let from = c.path_row-word-items.result.now in
    let stores = c.all_store_words-stores.result.now in
    let reached = c.path_row-reached.result.now in
    earlier_words_all c.args.marks.now.items c.loop-j.marks.items c.loop-j.j (IsNewRow t SwapAfter Edge c.args.u) c.loop-j.invariant
    (λ v new. let is = (swap_after_is t Edge c.args.u c.in-Some.l v from stores reached c.in-Some.ensures.is.0 c.in-Some.ensures.is.1 c.path_row-word-items.ensures.paths
    c.all_store_words-stores.ensures c.path_row-reached.ensures.paths).1 new in
    let low = HasNumber-within from v is.0.0 in omega (arith, low, c.loop-j-test.false))

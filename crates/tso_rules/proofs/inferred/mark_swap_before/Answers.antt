use Rattle.std.proofs.Common.{◌-◌, suc, get_or, refl, arith}
use Rattle.order_graph.specs.Digraphs.{IsEdge}
use Rattle.bitsets.specs.Rows.{HasNumber}
use Rattle.tso_cert.specs.declared.rules.InferredRule.TheVariants.{SwapBefore}
use Rattle.tso_ops.proofs.NumberFacts.{event_above_zero, store_event}
use Rattle.tso_rules.specs.Internal.MarkedRows.{IsNewRow}
use Rattle.tso_rules.proofs.InferredFacts.{swap_before_is}
use Rattle.bitsets.proofs.MarkFacts.{earlier_words_all, earlier_words_kept}
use Rattle.bitsets.proofs.RowFacts.{below_number, HasNumber-within}
use Rattle.tso_rules.proofs.inferred.mark_swap_before.Goals as goal

pub overflow_sub-u : goal.overflow_sub-u
overflow_sub-u c =
    let above = event_above_zero c.args.trace.now c.args.u (store_event c.args.trace.now c.args.u (c.is_store.ensures.0 c.if-not-is_store.false)) in
    omega arith

pub loop-j-preserved : goal.loop-j-preserved
loop-j-preserved c =
    let t = c.args.trace.now in
    let Edge = IsEdge c.args.graph.now in
    let loads = c.swap_load_words-loads.result.now in
    let reached = c.path_row-reached.result.now in
    earlier_words_kept c.args.marks.now.items c.loop-j.marks.items c.mark_word.new.marks.items loads reached c.loop-j.j c.word_below.result c.word_at.result (get_or reached c.loop-j.j 0)
    c.word_without.result (c.args.u - 1) (λ v. HasNumber reached (suc v)) (IsNewRow t SwapBefore Edge c.args.u) c.loop-j.invariant c.in_ok-mark_word.ensures
    (λ v at. below_number reached c.loop-j.j c.word_below.result v at c.word_below.ensures) c.word_at.ensures refl (omega arith)
    c.word_without.ensures
    (λ v. swap_before_is t Edge c.args.u v loads reached (c.is_store.ensures.0 c.if-not-is_store.false) c.swap_load_words-loads.ensures c.path_row-reached.ensures.paths)

pub returns : goal.returns
returns c =
    let t = c.args.trace.now in
    let Edge = IsEdge c.args.graph.now in
    let loads = c.swap_load_words-loads.result.now in
    let reached = c.path_row-reached.result.now in
    earlier_words_all c.args.marks.now.items c.loop-j.marks.items c.loop-j.j (IsNewRow t SwapBefore Edge c.args.u) c.loop-j.invariant
    (λ v new. let is = (swap_before_is t Edge c.args.u v loads reached (c.is_store.ensures.0 c.if-not-is_store.false) c.swap_load_words-loads.ensures c.path_row-reached.ensures.paths).1 new in
    let low = HasNumber-within reached (suc v) is.0.0 in omega (arith, low, c.loop-j-test.false))

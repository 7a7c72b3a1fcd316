use Rattle.std.proofs.Common.{◌↔◌, ◌∙◌, get_or, subst, sym, refl, arith}
use Rattle.order_graph.specs.Digraphs.{IsEdge}
use Rattle.bitsets.specs.Rows.{HasNumber}
use Rattle.tso_cert.specs.declared.rules.InferredRule.TheVariants.{LoadPast}
use Rattle.tso_rules.specs.Internal.MarkedRows.{IsNewRow, IsSourceOf}
use Rattle.tso_rules.proofs.InferredFacts.{load_past_is}
use Rattle.bitsets.proofs.MarkFacts.{earlier_words_all, earlier_words_more}
use Rattle.bitsets.proofs.RowFacts.{left_number, HasNumber-within}
use Rattle.tso_rules.proofs.inferred.mark_load_past.Goals as goal

pub loop-j-preserved : goal.loop-j-preserved
loop-j-preserved c =
    let t = c.args.trace.now in
    let Edge = IsEdge c.args.graph.now in
    let sources = c.deref-word-items.result.now in
    let reached = c.path_row-reached.result.now in
    let loads = c.load_words.result.now in
    earlier_words_more c.args.marks.now.items c.loop-j.marks.items c.mark_word.new.marks.items c.loop-j.j _ (IsNewRow t LoadPast Edge c.args.u) c.loop-j.invariant c.in_ok-mark_word.ensures
    (λ v at. let left = left_number sources reached c.loop-j.j (get_or sources c.loop-j.j 0) c.word_at.result v at refl c.word_at.ensures (omega arith) in
    let of = subst (λ row. HasNumber row v ↔ IsSourceOf t reached loads c.args.u v) (sym c.deref-word-items.ensures.value) (c.in_ok-sources.ensures v) in
    let is = load_past_is t Edge c.args.u v c.in-Some.event loads reached (sym c.event.ensures ∙ c.in-Some.is) c.if-event.false c.load_words.ensures c.path_row-reached.ensures.paths in
    (λ bit. let has = left.0 bit in is.0 (of.0 has.0, has.1), λ new. let has = is.1 new in left.1 (of.1 has.0, has.1)))

pub returns : goal.returns
returns c =
    let t = c.args.trace.now in
    let Edge = IsEdge c.args.graph.now in
    let sources = c.deref-word-items.result.now in
    let reached = c.path_row-reached.result.now in
    let loads = c.load_words.result.now in
    earlier_words_all c.args.marks.now.items c.loop-j.marks.items c.loop-j.j (IsNewRow t LoadPast Edge c.args.u) c.loop-j.invariant
    (λ v new. let of = subst (λ row. HasNumber row v ↔ IsSourceOf t reached loads c.args.u v) (sym c.deref-word-items.ensures.value) (c.in_ok-sources.ensures v) in
    let is = (load_past_is t Edge c.args.u v c.in-Some.event loads reached (sym c.event.ensures ∙ c.in-Some.is) c.if-event.false c.load_words.ensures c.path_row-reached.ensures.paths).1 new in
    let low = HasNumber-within sources v (of.1 is.0) in omega (arith, low, c.loop-j-test.false))

use Rattle.std.proofs.Common.{◌∙◌, suc, arith, false}
use Rattle.std.proofs.lemmas.List.{get_or-replicate, length-replicate}
use Rattle.tso_ops.specs.Events.{event_total}
use Rattle.trace_explanation.proofs.StepFacts.{marks-none, marks-more}
use Rattle.trace_explanation.proofs.marks.mark_named.Goals as goal

pub loop-line-init : goal.loop-line-init
loop-line-init g c =
    let t = c.args.trace.now in
    let count = c.node_count.ensures.count in
    let is = c.in_ok-marks.ensures.items_if_clones_equal (λ y e. e) in
    marks-none (g.N.NamesEvents.numbers t) (suc (event_total t)) c.in_ok-marks.marks.items (rw is (length-replicate c.node_count.result false ∙ count))
    (λ n within. rw is (get_or-replicate c.node_count.result n false false (omega (arith, within, count))))

pub loop-line-preserved : goal.loop-line-preserved
loop-line-preserved g c =
    marks-more (g.N.NamesEvents.numbers c.args.trace.now) c.args.lines.now c.loop-line.line-index _ c.line-item.result c.loop-line.marks.items c.mark.new.marks.items c.loop-line-test.true c.line-item.is c.loop-line.invariant
    c.mark.ensures.length c.mark.ensures.marked

use Rattle.std.proofs.Common.{◌<◌, [], suc, refl, get_or, subst, arith}
use Rattle.std.specs.Result.{IfOk}
use Rattle.bitsets.specs.Rows.{HasNumber, IsListOf}
use Rattle.bitsets.proofs.MarkFacts.{steps_more, marks_as, marked_is}
use Rattle.bitsets.proofs.ListFacts.{list_marked}
use Rattle.tso_ops.specs.Events.{event_total}
use Rattle.tso_ops.proofs.EventFacts.{event_total-most}
use Rattle.tso_rules.specs.Affected.{RestsOn, IsAffected}
use Rattle.tso_rules.proofs.AffectedFacts.{RestsAt, rests_within, affected_is}
use Rattle.tso_rules.proofs.affected.affected_rows.Goals as goal

pub loop-k-preserved : goal.loop-k-preserved
loop-k-preserved c =
    let t = c.args.trace.now in
    let grown = c.args.grown.now in
    steps_more [] c.loop-k.marks.items c.mark_affected.new.marks.items c.loop-k.k (RestsAt t grown) c.loop-k.invariant
    (marks_as c.loop-k.marks.items c.mark_affected.new.marks.items (RestsOn t (get_or grown c.loop-k.k 0)) (RestsAt t grown c.loop-k.k) c.in_ok-mark_affected.ensures
    (λ v. (λ rests. (c.loop-k-test.true, rests), λ at. at.1)))

pub marked-requires-clause-small : goal.marked-requires-clause-small
marked-requires-clause-small c = omega (arith, c.node_count.ensures.count, event_total-most c.args.trace.now c.node_count.ensures.kept)

pub marked-requires-clause-within : goal.marked-requires-clause-within
marked-requires-clause-within c = λ v has.
    let t = c.args.trace.now in
    let by = marked_is [] c.loop-k.marks.items _ refl c.loop-k.invariant v (subst (λ m. HasNumber m v) c.deref.ensures.value has) in
    let low : v < suc (event_total t) = rests_within t (get_or c.args.grown.now by.0 0) v by.2.1 in
    omega (arith, low, c.node_count.ensures.count)

pub returns : goal.returns
returns c =
    let t = c.args.trace.now in
    let grown = c.args.grown.now in
    list_marked c.marked.result [] c.loop-k.marks.items (IsAffected t grown) refl
    (marks_as [] c.loop-k.marks.items _ _ c.loop-k.invariant (affected_is t grown c.loop-k.k (omega (arith, c.loop-k-test.false))))
    (subst (λ m. IfOk c.marked.result (λ row. IsListOf row.items (HasNumber m))) c.deref.ensures.value c.marked.ensures)

use Rattle.std.proofs.Common.{◌∙◌, sym, ap, cond, Some, None, get_or, arith}
use Rattle.std.proofs.lemmas.List.{length-take}
use Rattle.tso_ops.specs.declared.ops.Op.TheVariants.{Ld}
use Rattle.tso_ops.specs.Values.{ops_at}
use Rattle.final_states.specs.Internal.Words.{after_issue, may_issue}
use Rattle.final_states.proofs.MoveFacts.{issue-after, issue-buffer, issue-room, issued-next, op-range, op-read}
use Rattle.final_states.proofs.moves.issued.Goals as goal

pub may_issue-requires : goal.may_issue-requires
may_issue-requires c = omega (arith, length-take c.count_at-count.result c.ops-ops.result.now, c.marks_at-marks.ensures.count)

pub returns-then-not-may_issue : goal.returns-then-not-may_issue
returns-then-not-may_issue c =
    let read = op-read c.ops-ops.result.now (ops_at c.args.program.now c.args.p) c.count_at-count.result (Ld 0) c.ops-ops.ensures c.if-count-ops.false in
    let buffer = issue-buffer c.args.program.now c.args.words.now c.args.p c.count_at-count.result c.ops-ops.result.now c.marks_at-marks.result.now c.count_at-count.ensures c.ops-ops.ensures c.marks_at-marks.ensures.marks in
    ap (λ b. cond b (Some (after_issue c.args.program.now c.args.plan.now.addresses.items c.args.words.now c.args.p (get_or c.ops-ops.result.now c.count_at-count.result (Ld 0)))) None) (sym c.if-not-may_issue.true)
    ∙ issued-next c.args.program.now c.args.plan.now.addresses.items c.args.words.now c.args.p c.count_at-count.result _ c.may_issue.result c.count_at-count.ensures read
    (c.may_issue.ensures ∙ ap (may_issue _) buffer)

pub mark_for-mark-requires-clause-address : goal.mark_for-mark-requires-clause-address
mark_for-mark-requires-clause-address c = op-range c.args.program.now c.args.plan.now c.args.p c.ops-ops.result.now c.count_at-count.result (Ld 0) c.requires.plan c.ops-ops.ensures c.if-count-ops.false

pub mark_for-mark-requires-clause-marks : goal.mark_for-mark-requires-clause-marks
mark_for-mark-requires-clause-marks c = omega (arith, length-take c.count_at-count.result c.ops-ops.result.now, c.marks_at-marks.ensures.count)

pub with_issued-requires : goal.with_issued-requires
with_issued-requires c =
    issue-room c.args.program.now c.args.plan.now c.args.words.now c.args.p c.start_at.result c.count_at-count.result c.ops-ops.result.now c.requires.width c.requires.p c.start_at.ensures
    c.count_at-count.ensures c.ops-ops.ensures c.if-count-ops.false

pub swap-requires-clause-address : goal.swap-requires-clause-address
swap-requires-clause-address c = op-range c.args.program.now c.args.plan.now c.args.p c.ops-ops.result.now c.count_at-count.result (Ld 0) c.requires.plan c.ops-ops.ensures c.if-count-ops.false

pub returns : goal.returns
returns c =
    let read = op-read c.ops-ops.result.now (ops_at c.args.program.now c.args.p) c.count_at-count.result (Ld 0) c.ops-ops.ensures c.if-count-ops.false in
    let buffer = issue-buffer c.args.program.now c.args.words.now c.args.p c.count_at-count.result c.ops-ops.result.now c.marks_at-marks.result.now c.count_at-count.ensures c.ops-ops.ensures c.marks_at-marks.ensures.marks in
    issue-after c.args.program.now c.args.plan.now.addresses.items c.args.words.now c.args.p c.start_at.result c.mark_for-mark.result c.count_at-count.result _ c.in_ok-next.next.items _
    c.count_at-count.ensures read (sym c.if-not-may_issue.false ∙ c.may_issue.ensures ∙ ap (may_issue _) buffer) c.start_at.ensures (c.mark_for-mark.ensures c.args.p buffer) c.in_ok-next.ensures c.swap.ensures

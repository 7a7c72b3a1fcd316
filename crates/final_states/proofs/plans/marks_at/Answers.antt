use Rattle.std.proofs.Common.{◌∙◌, ap, length, arith}
use Rattle.final_states.proofs.MoveFacts.{marks-length, marks-part, row-room}
use Rattle.final_states.proofs.plans.marks_at.Goals as goal

pub overflow_add-from : goal.overflow_add-from
overflow_add-from c = omega (arith, row-room c.args.program.now c.args.plan.now c.args.words.now c.args.p c.requires.width c.requires.p, c.start_at-from.ensures)

pub overflow_add-to : goal.overflow_add-to
overflow_add-to c = omega (arith, row-room c.args.program.now c.args.plan.now c.args.words.now c.args.p c.requires.width c.requires.p, c.start_at-from.ensures, c.requires.count)

pub offset_bounds-words-from : goal.offset_bounds-words-from
offset_bounds-words-from c = omega (arith, row-room c.args.program.now c.args.plan.now c.args.words.now c.args.p c.requires.width c.requires.p, c.start_at-from.ensures)

pub slice_bounds-result-end : goal.slice_bounds-result-end
slice_bounds-result-end c = omega (arith, row-room c.args.program.now c.args.plan.now c.args.words.now c.args.p c.requires.width c.requires.p, c.start_at-from.ensures, c.requires.count)

pub returns-clause-marks : goal.returns-clause-marks
returns-clause-marks c = marks-part c.args.words.now _ c.start_at-from.result c.args.count c.start_at-from.ensures

pub returns-clause-count : goal.returns-clause-count
returns-clause-count c =
    ap length (marks-part c.args.words.now _ c.start_at-from.result c.args.count c.start_at-from.ensures)
    ∙ marks-length c.args.program.now c.args.plan.now c.args.words.now c.args.p c.args.count c.requires.width c.requires.p c.requires.count

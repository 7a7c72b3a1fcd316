use Rattle.final_states.proofs.StateFacts.{done-when}
use Rattle.final_states.proofs.finals.is_done.Goals as goal

pub returns-then-count_at-ops : goal.returns-then-count_at-ops
returns-then-count_at-ops c =
    done-when c.args.program.now c.args.words.now c.args.p c.count_at.result c.ops-ops.result.now c.marks_at-marks.result.now c.is_buffer_empty.result c.ops-ops.ensures c.marks_at-marks.ensures.marks
    c.count_at.ensures c.if-count_at-ops.true c.is_buffer_empty.ensures

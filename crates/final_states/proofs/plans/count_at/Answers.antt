use Rattle.std.proofs.Common.{arith}
use Rattle.final_states.proofs.MoveFacts.{row-room}
use Rattle.final_states.proofs.plans.count_at.Goals as goal

pub offset_bounds-words-at : goal.offset_bounds-words-at
offset_bounds-words-at c = omega (arith, row-room c.args.program.now c.args.plan.now c.args.words.now c.args.p c.requires.width c.requires.p, c.start_at-at.ensures)

pub bounds-words-at : goal.bounds-words-at
bounds-words-at c = omega (arith, row-room c.args.program.now c.args.plan.now c.args.words.now c.args.p c.requires.width c.requires.p, c.start_at-at.ensures)

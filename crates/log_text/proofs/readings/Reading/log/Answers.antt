use Rattle.log_text.proofs.ReadingFacts.{held_after}
use Rattle.log_text.proofs.readings.Reading.log.Goals as goal

pub returns : goal.returns
returns c = held_after c.args.self c.leave_out.result (rw (c.deref.ensures.value, c.in_ok-entries_of.ensures) at c.leave_out.ensures)

use Rattle.unit_core.proofs.RecordFacts.{concluded}
use Rattle.unit_core.proofs.endings.conclude_over.Goals as goal

pub returns : goal.returns
returns g c =
    concluded c.args.program.now (g.U.MemoryUnit.value_of c.args.unit) (g.U.MemoryUnit.value_of c.drain_and_record-answer.new.unit) c.of_steps.result
    c.drain_and_record-answer.result c.steps.result.now c.drain_and_record-answer.ensures.drained c.steps.ensures.are c.of_steps.ensures
    c.drain_and_record-answer.ensures.recorded c.drain_and_record-answer.ensures.kept

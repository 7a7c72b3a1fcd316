use Rattle.std.proofs.lemmas.Result.{on_ok_weaker}
use Rattle.run_steps.specs.Machine.{with_store}
use Rattle.run_steps.specs.Reads.{memory_of_cells}
use Rattle.run_steps.proofs.StateFacts.{processor_changed}
use Rattle.run_steps.proofs.machines.Machine.enter.Goals as goal

pub returns-clause-state : goal.returns-clause-state
returns-clause-state c =
    on_ok_weaker c.add_waiting.result
    (λ is. processor_changed (memory_of_cells c.args.self.now.memory) c.args.self.now.processors.items c.args.p c.index_mut.result.now c.add_waiting.new.processor (with_store c.args.line c.args.place c.args.value)
    c.requires c.index_mut.ensures.value is)
    c.add_waiting.ensures

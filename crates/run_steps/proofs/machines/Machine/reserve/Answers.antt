use Rattle.std.proofs.Common.{refl}
use Rattle.run_steps.specs.Reads.{memory_of_cells}
use Rattle.run_steps.proofs.StateFacts.{processor_changed}
use Rattle.run_steps.proofs.machines.Machine.reserve.Goals as goal

pub returns-clause-state : goal.returns-clause-state
returns-clause-state c =
    processor_changed (memory_of_cells c.args.self.now.memory) c.args.self.now.processors.items c.args.p c.index_mut.result.now (record c.index_mut.result.now { reservation = c.args.reservation }) (λ x. record x { reserved = c.args.reservation }) c.requires c.index_mut.ensures.value refl

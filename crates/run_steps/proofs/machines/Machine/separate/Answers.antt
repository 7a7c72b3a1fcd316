use Rattle.std.proofs.Common.{refl}
use Rattle.run_steps.specs.Reads.{memory_of_cells}
use Rattle.run_steps.proofs.StateFacts.{processor_changed}
use Rattle.run_steps.proofs.machines.Machine.separate.Goals as goal

pub returns-clause-state : goal.returns-clause-state
returns-clause-state c =
    processor_changed (memory_of_cells c.args.self.now.memory) c.args.self.now.processors.items c.args.p c.index_mut.result.now (record c.index_mut.result.now { stbar = c.args.line }) (λ x. record x { stbar = c.args.line }) c.requires c.index_mut.ensures.value refl

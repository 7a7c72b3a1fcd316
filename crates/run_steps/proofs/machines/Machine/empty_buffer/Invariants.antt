use Rattle.std.proofs.Common.{◌≡◌, drop, length}
use Rattle.run_steps.specs.Machine.{emptied, reaching_all, state_of_machine}
use Rattle.run_steps.proofs.machines.Machine.empty_buffer.Given as goal

abbrev pub invariant-loop-store : goal.invariant-loop-store
invariant-loop-store l = record {
  state : reaching_all l.line l.p (drop l.store-index l.store-items) (state_of_machine l.self) ≡ emptied l.line l.p (state_of_machine l.fn.self);
  kept : length l.self.processors.items ≡ length l.fn.self.processors.items;
  model : l.self.order ≡ l.fn.self.order;
}

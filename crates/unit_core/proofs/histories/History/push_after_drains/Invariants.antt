use Rattle.std.proofs.Common.{◌≡◌, ◌≤◌, ◌+◌, ◌++◌, replicate}
use Rattle.unit_core.specs.declared.steps.Step.TheVariants.{Drain}
use Rattle.unit_core.proofs.histories.History.push_after_drains.Given as goal

abbrev pub invariant-loop-done : goal.invariant-loop-done
invariant-loop-done l = record {
  steps : l.self.steps ≡ l.initial.self.steps ++ replicate l._done (Drain l.p);
  first : l.self.first ≡ l.initial.self.first;
  room : l.initial.self.room ≤ l.self.room + l._done;
}

use Rattle.std.proofs.Common.{◌≡◌, ◌≤◌, ◌+◌}
use Rattle.unit_faulty.specs.Faulty.{drain_times}
use Rattle.unit_faulty.proofs.memory.FaultyMemory.drain_times.Given as goal

abbrev pub invariant-loop-done : goal.invariant-loop-done
invariant-loop-done l = record {
  left : l.self ≡ drain_times l._done l.initial.self l.p;
  count : l.self.occasions ≤ l.initial.self.occasions + l._done;
}

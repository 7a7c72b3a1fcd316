use Rattle.std.proofs.Common.{◌≡◌, ◌+◌, ◌≤◌, length}
use Rattle.unit_core.specs.Machine.{buffer_of}
use Rattle.unit_kinds.specs.Internal.Partial.{TakesNextDrains}
use Rattle.unit_kinds.proofs.partial.drain_times.Given as goal

abbrev pub invariant-loop-done : goal.invariant-loop-done
invariant-loop-done l = record {
  taken : TakesNextDrains l.p l._done l.initial.parts l.parts l.initial.history l.history;
  room : l.initial.history.room ≤ l.history.room + l._done;
  fewer : length (buffer_of l.parts.state l.p) + l._done ≡ length (buffer_of l.initial.parts.state l.p);
}

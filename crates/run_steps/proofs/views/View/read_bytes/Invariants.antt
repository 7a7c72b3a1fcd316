use Rattle.std.proofs.Common.{◌≡◌, ◌<◌, ◌+◌, ◌-◌, ◌^◌, IfSome}
use Rattle.run_steps.specs.Reads.{memory_of_cells, read_from, sees}
use Rattle.run_steps.proofs.views.View.read_bytes.Given as goal

abbrev pub invariant-loop-i : goal.invariant-loop-i
invariant-loop-i l = record {
  value : l.value ≡ read_from l.place.width (sees (memory_of_cells l.self.memory.now) l.self.waiting.now) (l.place.address + l.i) (l.place.width - l.i);
  small : IfSome l.value (λ v. v < 256 ^ (l.place.width - l.i));
}

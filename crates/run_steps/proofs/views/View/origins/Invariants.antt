use Rattle.std.proofs.Common.{◌≡◌, ◌+◌, ◌-◌}
use Rattle.run_steps.specs.Places.{cell_count}
use Rattle.run_steps.specs.Reads.{memory_of_cells, origins_from, origins_in, sees}
use Rattle.run_steps.proofs.views.View.origins.Given as goal

abbrev pub invariant-loop-i : goal.invariant-loop-i
invariant-loop-i l =
    origins_from (sees (memory_of_cells l.self.memory.now) l.self.waiting.now) (l.place.address + l.i) (cell_count l.place - l.i) l.origins.items
    ≡ origins_in l.place (sees (memory_of_cells l.self.memory.now) l.self.waiting.now)

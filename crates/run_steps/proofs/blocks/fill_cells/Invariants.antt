use Rattle.std.proofs.Common.{◌≡◌, ◌+◌, ◌-◌, map}
use Rattle.run_steps.specs.Places.{cell_count, parts_from, cell_parts}
use Rattle.run_steps.specs.Reads.{filled, memory_in, written_in}
use Rattle.run_steps.proofs.blocks.fill_cells.Given as goal

abbrev pub invariant-loop-i : goal.invariant-loop-i
invariant-loop-i l =
    filled (memory_in l.locations l.blocks) (l.place.address + l.i) (map (written_in l.written) (parts_from l.place.width (cell_count l.place - l.i) l.rest))
    ≡ filled (memory_in l.locations l.fn.blocks) l.place.address (map (written_in l.written) (cell_parts l.place l.value))

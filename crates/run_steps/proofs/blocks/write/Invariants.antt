use Rattle.std.proofs.Common.{◌≡◌, ◌+◌, ◌-◌, ◌%◌, map}
use Rattle.run_steps.specs.Places.{cell_count, parts_from, cell_parts}
use Rattle.run_steps.specs.Reads.{with_cells, written_in}
use Rattle.run_steps.proofs.blocks.write.Given as goal

abbrev pub invariant-loop-i : goal.invariant-loop-i
invariant-loop-i l =
    with_cells l.block.cells (l.place.address % 8 + l.i) (map (written_in l.written) (parts_from l.place.width (cell_count l.place - l.i) l.rest))
    ≡ with_cells l.fn.block.cells (l.place.address % 8) (map (written_in l.written) (cell_parts l.place l.value))

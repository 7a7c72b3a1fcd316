use Rattle.std.proofs.Common.{◌≡◌, ◌<◌, ◌+◌, ◌*◌, ◌/◌, ℕ, get_or, length}
use Rattle.run_steps.specs.declared.cells.Cell.TheVariants.{First}
use Rattle.run_steps.specs.Reads.{location_in}
use Rattle.run_steps.proofs.blocks.block_of.Given as goal

abbrev pub invariant-loop-i : goal.invariant-loop-i
invariant-loop-i l = record {
  whole : length l.block.cells ≡ 8;
  cells : (j : ℕ) → j < l.i → get_or l.block.cells j (First 0) ≡ location_in l.locations (8 * (l.address / 8) + j);
}

use Rattle.std.proofs.Common.{◌≤◌, ◌+◌, ◌%◌, ◌∷◌, [], arith}
use Rattle.run_steps.specs.Reads.{location_in}
use Rattle.run_steps.proofs.BlockFacts.{block_filled}
use Rattle.run_steps.proofs.blocks.put.Goals as goal

pub returns-in-Ok : goal.returns-in-Ok
returns-in-Ok c =
    let address = c.args.address in
    let within : address % 8 + 1 ≤ 8 = omega arith in
    block_filled (location_in c.args.locations.now) c.args.blocks.now.entries c.insert.new.self.entries address c.block_at-block.result c.set_cell.new.block (c.args.cell ∷ []) within c.set_cell.ensures.whole
    c.block_at-block.ensures c.set_cell.ensures.cells c.in-Ok.ensures.updates.0

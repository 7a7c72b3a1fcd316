use Rattle.std.proofs.Common.{◌≡◌, ◌∙◌, ◌+◌, ◌*◌, ◌≤◌, ◌%◌, ◌/◌, Some, ap, arith, cond, nat_eq, map, length, rules}
use Rattle.std.proofs.lemmas.List.{length-map}
use Rattle.std.specs.Map.{lookup}
use Rattle.run_steps.specs.Places.{cell_count, cell_parts}
use Rattle.run_steps.specs.Reads.{cell_in, location_in, written_in}
use Rattle.run_steps.proofs.BlockFacts.{block_filled, parts_length}
use Rattle.run_steps.proofs.blocks.fill_block.Goals as goal

pub returns-in-Some : goal.returns-in-Some
returns-in-Some c =
    let place = c.args.place in
    let cells = map (written_in c.args.written) (cell_parts place c.args.value) in
    let count : length cells ≡ cell_count place = length-map (cell_parts place c.args.value) (written_in c.args.written) ∙ parts_length place.width (cell_count place) c.args.value in
    let within : place.address % 8 + length cells ≤ 8 = omega (arith, count, c.requires) in
    let others = location_in c.args.locations.now in
    block_filled others c.args.blocks.now.entries (c.get_mut.follows.lender c.write.new.block).entries place.address c.in-Some.block.now c.write.new.block cells within c.write.ensures.whole
    (λ i less. ap (λ o. cell_in (others (8 * (place.address / 8) + i)) o i) c.in-Some.ensures.value) c.write.ensures.cells ((c.get_mut.follows.holds c.write.new.block).3 (search rules)).0

pub returns-in-Ok : goal.returns-in-Ok
returns-in-Ok c =
    let place = c.args.place in
    let cells = map (written_in c.args.written) (cell_parts place c.args.value) in
    let count : length cells ≡ cell_count place = length-map (cell_parts place c.args.value) (written_in c.args.written) ∙ parts_length place.width (cell_count place) c.args.value in
    let within : place.address % 8 + length cells ≤ 8 = omega (arith, count, c.requires) in
    let others = location_in c.args.locations.now in
    block_filled others c.args.blocks.now.entries c.insert.new.self.entries place.address c.block_of-block.result c.write-2.new.block cells within c.write-2.ensures.whole
    (λ i less. c.block_of-block.ensures i less ∙ ap (λ o. cell_in (others (8 * (place.address / 8) + i)) o i) c.in_default.ensures.value) c.write-2.ensures.cells
    (λ q. c.in-Ok.ensures.updates.0 q ∙ ap (λ es. cond (nat_eq (place.address / 8) q) (Some c.write-2.new.block) (lookup (nat_eq q) es)) (ap (λ m. m.entries) c.get_mut.follows.holds-at-none))

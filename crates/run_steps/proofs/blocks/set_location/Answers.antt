use Rattle.std.proofs.Common.{◌∙◌, ◌∷◌, ◌+◌, ◌*◌, ◌≤◌, ◌%◌, ◌/◌, [], ap, arith, nat_eq, rules, sym}
use Rattle.std.specs.Map.{lookup}
use Rattle.run_steps.specs.Reads.{cell_in, location_in, with_cell}
use Rattle.run_steps.proofs.BlockFacts.{block_filled, location_filled}
use Rattle.run_steps.proofs.blocks.set_location.Goals as goal

pub returns-in-Some : goal.returns-in-Some
returns-in-Some c =
    let address = c.args.address in
    let within : address % 8 + 1 ≤ 8 = omega arith in
    let others = location_in c.args.locations.now in
    block_filled others c.args.blocks.now.entries (c.get_mut.follows.lender c.set_cell.new.block).entries address c.in-Some.block.now c.set_cell.new.block (c.args.cell ∷ []) within c.set_cell.ensures.whole
    (λ i less. ap (λ o. cell_in (others (8 * (address / 8) + i)) o i) c.in-Some.ensures.value) c.set_cell.ensures.cells ((c.get_mut.follows.holds c.set_cell.new.block).3 (search rules)).0

pub returns-in-Ok : goal.returns-in-Ok
returns-in-Ok c =
    let a = c.args in
    let same = ap (λ m. m.entries) c.get_mut.follows.holds-at-none in
    let none = ap (λ es. lookup (nat_eq (a.address / 8)) es) same ∙ sym c.in_default.ensures.value in
    location_filled (λ q. lookup (nat_eq q) c.get_mut.follows.lender-at-none.entries) a.locations.now.entries c.insert.new.self.entries a.address a.cell none c.in-Ok.ensures.updates.0
    ∙ ap (λ es. with_cell (λ q. cell_in (location_in a.locations.now q) (lookup (nat_eq (q / 8)) es) (q % 8)) a.address a.cell) same

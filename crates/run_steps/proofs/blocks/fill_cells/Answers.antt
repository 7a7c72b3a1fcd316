use Rattle.std.proofs.Common.{◌≡◌, ◌∙◌, ◌+◌, ◌-◌, ◌/◌, sym, ap, map, arith}
use Rattle.run_steps.specs.Places.{cell_count, parts_from}
use Rattle.run_steps.specs.Widths.{low_part}
use Rattle.run_steps.specs.Reads.{filled, memory_in, with_cell, written_in}
use Rattle.run_steps.proofs.MemoryFacts.{filled-next}
use Rattle.run_steps.proofs.blocks.fill_cells.Goals as goal

pub loop-i-preserved : goal.loop-i-preserved
loop-i-preserved c =
    let count = cell_count c.args.place in
    let width = c.args.place.width in
    let cell = written_in c.args.written in
    let i = c.loop-i.i in
    let address = c.args.place.address in
    let rest = c.loop-i.rest in
    let part : c.cell_of-cell.result ≡ cell (low_part width rest) = c.cell_of-cell.ensures ∙ ap cell c.low_part.ensures in
    let put = c.in_ok-put.ensures ∙ ap (with_cell (memory_in c.args.locations.now c.loop-i.blocks) (address + i)) part in
    let next : address + (i + 1) ≡ address + i + 1 = omega arith in
    let less : count - (i + 1) ≡ count - i - 1 = omega arith in
    ap (λ n. filled (memory_in c.args.locations.now c.put.new.blocks) n (map cell (parts_from width (count - (i + 1)) (rest / 256)))) next
    ∙ ap (λ n. filled (memory_in c.args.locations.now c.put.new.blocks) (address + i + 1) (map cell (parts_from width n (rest / 256)))) less
    ∙ ap (λ m. filled m (address + i + 1) (map cell (parts_from width (count - i - 1) (rest / 256)))) put
    ∙ sym (filled-next (memory_in c.args.locations.now c.loop-i.blocks) (address + i) width (count - i) rest cell (omega (arith, c.loop-i-test.true, c.cells-i-end.ensures))) ∙ c.loop-i.invariant

use Rattle.std.proofs.Common.{◌≡◌, ◌∙◌, ◌+◌, ◌-◌, ◌/◌, ◌%◌, sym, ap, map, set, arith}
use Rattle.run_steps.specs.Places.{cell_count, parts_from}
use Rattle.run_steps.specs.Widths.{low_part}
use Rattle.run_steps.specs.Reads.{with_cells, written_in}
use Rattle.run_steps.proofs.BlockFacts.{with_cells-next}
use Rattle.run_steps.proofs.blocks.write.Goals as goal

pub loop-i-preserved : goal.loop-i-preserved
loop-i-preserved c =
    let count = cell_count c.args.place in
    let width = c.args.place.width in
    let cell = written_in c.args.written in
    let i = c.loop-i.i in
    let start = c.args.place.address % 8 in
    let rest = c.loop-i.rest in
    let old = c.loop-i.block.cells in
    let new = set old (start + i) c.cell_of.result in
    let part : c.cell_of.result ≡ cell (low_part width rest) = c.cell_of.ensures ∙ ap cell c.low_part.ensures in
    let next : start + (i + 1) ≡ start + i + 1 = omega arith in
    let less : count - (i + 1) ≡ count - i - 1 = omega arith in
    ap (λ n. with_cells new n (map cell (parts_from width (count - (i + 1)) (rest / 256)))) next
    ∙ ap (λ n. with_cells new (start + i + 1) (map cell (parts_from width n (rest / 256)))) less
    ∙ ap (λ x. with_cells (set old (start + i) x) (start + i + 1) (map cell (parts_from width (count - i - 1) (rest / 256)))) part
    ∙ sym (with_cells-next old (start + i) width (count - i) rest cell (omega (arith, c.loop-i-test.true, c.cells-i-end.ensures))) ∙ c.loop-i.invariant

-- Lemmas on memory: what is written into it.
use Rattle.std.proofs.Common.{◌≡◌, ◌<◌, ap, ℕ, zero, suc, ◌+◌, ◌-◌, ◌/◌, map, arith}
use Rattle.run_steps.specs.declared.cells.Cell.{Cell}
use Rattle.run_steps.specs.Places.{parts_from}
use Rattle.run_steps.specs.Widths.{low_part}
use Rattle.run_steps.specs.Reads.{Memory, filled, with_cell}

-- of the cells that are filled, the first and the others
pub filled-next : (memory : Memory) (address width count value : ℕ) (cell : ℕ → Cell) → 0 < count →
    filled memory address (map cell (parts_from width count value)) ≡ filled (with_cell memory address (cell (low_part width value))) (address + 1) (map cell (parts_from width (count - 1) (value / 256)))
filled-next memory address width zero value cell some = absurd (omega (arith, some))
filled-next memory address width (suc count) value cell some =
    let less : count ≡ suc count - 1 = omega arith in
    ap (λ n. filled (with_cell memory address (cell (low_part width value))) (address + 1) (map cell (parts_from width n (value / 256)))) less

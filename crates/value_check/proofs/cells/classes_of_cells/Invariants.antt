use Rattle.std.proofs.Common.{◌≡◌, ◌<◌, ℕ, length, slice_index, All}
use Rattle.value_check.proofs.cells.classes_of_cells.Given as goal

-- the keys of the cells so far
abbrev pub invariant-loop-i : goal.invariant-loop-i
invariant-loop-i l =
    (length l.keys.items ≡ l.cells.count) × All (λ n. n < l.classes.count) l.keys.items
    × ((k : ℕ) → k < l.i → slice_index l.keys.items (slice_index l.cells.numbers.items k) ≡ slice_index l.classes.numbers.items k)

use Rattle.std.proofs.Common.{ap, length, arith}
use Rattle.value_check.proofs.cells.Cells.new.Goals as goal

pub classes_of_cells-requires-clause-some : goal.classes_of_cells-requires-clause-some
classes_of_cells-requires-clause-some c = λ some.
    let cells = c.in_ok-cells.ensures in
    let classes = c.in_ok-classes.ensures in
    let pairs = ap length c.deref-2.ensures.value in
    let numbers = ap length c.deref.ensures.value in
    let first = classes.below 0 0 (omega (arith, cells.few, cells.whole, classes.whole, c.in_ok-pairs.ensures.whole, pairs, numbers)) in
    omega arith

pub of_keys-requires-clause-most : goal.of_keys-requires-clause-most
of_keys-requires-clause-most c =
    let cells = c.in_ok-cells.ensures in
    let classes = c.in_ok-classes.ensures in
    omega (arith, cells.few, cells.whole, classes.whole, c.in_ok-class_keys.ensures.whole, c.in_ok-pairs.ensures.whole)

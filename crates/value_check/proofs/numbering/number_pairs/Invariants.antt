use Rattle.std.proofs.Common.{◌≡◌, length}
use Rattle.value_check.specs.Internal.Numbering.{FindsNumbers}
use Rattle.value_check.proofs.numbering.number_pairs.Given as goal

-- the map has the numbers of the pairs so far
abbrev pub invariant-loop-pair : goal.invariant-loop-pair
invariant-loop-pair l = (length l.numbers.items ≡ l.pair-index) × FindsNumbers l.pairs l.found l.numbers.items l.count

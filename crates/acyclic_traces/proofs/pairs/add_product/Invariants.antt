use Rattle.std.proofs.Common.{◌≡◌, length}
use Rattle.acyclic_traces.proofs.ProductFacts.{GivesProduct}
use Rattle.acyclic_traces.proofs.pairs.add_product.Given as goal

-- the numbers that aren't left have the pairs
abbrev pub invariant-loop-left : goal.invariant-loop-left
invariant-loop-left l = (length l.rows ≡ 64) × GivesProduct l.fn.rows l.rows l.from l.to l.left

abbrev pub decreases-loop-left : goal.decreases-loop-left
decreases-loop-left l = l.left

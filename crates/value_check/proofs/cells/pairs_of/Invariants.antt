use Rattle.std.proofs.Common.{◌≡◌, ◌<◌, ℕ, length, slice_index}
use Rattle.chain_reach.specs.Groups.{group_of}
use Rattle.value_check.specs.Internal.Numbering.{pair_at}
use Rattle.value_check.proofs.cells.pairs_of.Given as goal

-- the pairs so far
abbrev pub invariant-loop-i : goal.invariant-loop-i
invariant-loop-i l = (length l.pairs.items ≡ l.i) × ((k : ℕ) → k < l.i → pair_at l.pairs.items k ≡ (slice_index l.classes k, group_of l.chains k))

use Rattle.std.proofs.Common.{ℕ, ◌/◌, ◌<◌, ◌≤◌, slice_index}
use Rattle.order_check.specs.Internal.Left.{IsLeftIn}
use Rattle.order_check.proofs.left.left_are_up_to.Given as goal

-- those of the words before have such places
abbrev pub invariant-loop-j : goal.invariant-loop-j
invariant-loop-j l = (u : ℕ) → u / 64 < l.j → IsLeftIn l.progress.left.items l.chosen.one.now l.chosen.two.now l.chosen.other.now l.n u → slice_index l.progress.places.items u ≤ l.most

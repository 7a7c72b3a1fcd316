use Rattle.bitsets.proofs.ListFacts.{Listed}
use Rattle.bitsets.proofs.lists.push_marked.Given as goal

abbrev pub invariant-loop-left : goal.invariant-loop-left
invariant-loop-left l = Listed l.marks l.list.items l.j l.left

abbrev pub decreases-loop-left : goal.decreases-loop-left
decreases-loop-left l = l.left

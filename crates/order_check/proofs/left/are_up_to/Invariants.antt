use Rattle.std.proofs.Common.{◌↔◌}
use Rattle.order_check.proofs.LeftFacts.{BitsAreUpTo}
use Rattle.order_check.proofs.left.are_up_to.Given as goal

-- the numbers of the bits that are left have such places exactly if those of all bits have
abbrev pub invariant-loop-rest : goal.invariant-loop-rest
invariant-loop-rest l = BitsAreUpTo l.progress.places.items l.j l.most l.rest ↔ BitsAreUpTo l.progress.places.items l.j l.most l.word

abbrev pub decreases-loop-rest : goal.decreases-loop-rest
decreases-loop-rest l = l.rest

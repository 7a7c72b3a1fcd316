use Rattle.std.proofs.Common.{take}
use Rattle.value_check.proofs.AsideFacts.{AreSetAside}
use Rattle.value_check.proofs.steps.set_aside.Given as goal

-- the numbers are those of the pairs so far
abbrev pub invariant-loop-pair : goal.invariant-loop-pair
invariant-loop-pair l = AreSetAside (take l.pair-index l.aside) l.load l.numbers.items

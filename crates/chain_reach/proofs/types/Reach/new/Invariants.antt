use Rattle.std.proofs.Common.{length}
use Rattle.chain_reach.proofs.TableFacts.{Begun}
use Rattle.chain_reach.proofs.types.Reach.new.Given as goal

-- the rows below x have their own chain's first number
abbrev pub invariant-loop-x : goal.invariant-loop-x
invariant-loop-x l = Begun l.chains.keys.items (length l.chains.lists.items) l.first.items l.x

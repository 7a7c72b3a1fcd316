use Rattle.chain_reach.proofs.GroupedFacts.{Grouped}
use Rattle.chain_reach.proofs.types.Groups.of_keys.Given as goal

-- the numbers below n are listed
abbrev pub invariant-loop-n : goal.invariant-loop-n
invariant-loop-n l = Grouped l.keys.items l.lists.items (λ list. list.items) l.count l.n

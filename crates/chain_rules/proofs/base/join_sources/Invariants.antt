use Rattle.chain_rules.proofs.BaseReachFacts.{LeadsReads}
use Rattle.chain_rules.proofs.base.join_sources.Given as goal

-- the base edges of the loads below l lead
abbrev pub invariant-loop-l : goal.invariant-loop-l
invariant-loop-l l = LeadsReads l.trace l.fn.reach l.reach l.l

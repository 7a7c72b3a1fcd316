use Rattle.chain_rules.proofs.BaseReachFacts.{LeadsFirst}
use Rattle.chain_rules.proofs.base.base_reach.Given as goal

-- what the rule Init and program order put after the numbers below u leads from them
abbrev pub invariant-loop-u : goal.invariant-loop-u
invariant-loop-u l = LeadsFirst l.trace l.fn.chains l.reach l.u

use Rattle.chain_rules.proofs.BaseReachFacts.{LeadsLater}
use Rattle.chain_rules.proofs.base.join_later.Given as goal

-- the number leads to what comes after it in the chains below d
abbrev pub invariant-loop-d : goal.invariant-loop-d
invariant-loop-d l = LeadsLater l.trace l.fn.reach l.reach l.u l.d

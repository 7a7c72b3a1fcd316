use Rattle.chain_rules.specs.Internal.Layouts.{AreChainKeys}
use Rattle.chain_rules.proofs.chains.chains_of.Given as goal

-- the numbers below n have their keys
abbrev pub invariant-loop-n : goal.invariant-loop-n
invariant-loop-n l = AreChainKeys l.trace l.keys.items l.n

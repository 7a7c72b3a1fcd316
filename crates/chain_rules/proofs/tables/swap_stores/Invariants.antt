use Rattle.chain_rules.specs.Internal.Accesses.{AreKeys, HasSwapChain}
use Rattle.chain_rules.proofs.tables.swap_stores.Given as goal

-- the numbers below n have their keys
abbrev pub invariant-loop-n : goal.invariant-loop-n
invariant-loop-n l = AreKeys l.keys.items (HasSwapChain l.trace l.chains) l.others l.n

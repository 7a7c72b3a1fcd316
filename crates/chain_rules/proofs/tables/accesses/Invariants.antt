use Rattle.chain_rules.specs.Internal.Accesses.{AreKeys, HasSlot}
use Rattle.chain_rules.proofs.tables.accesses.Given as goal

-- the numbers below n have their keys
abbrev pub invariant-loop-n : goal.invariant-loop-n
invariant-loop-n l = AreKeys l.keys.items (HasSlot l.trace l.addresses l.loads) l.others l.n

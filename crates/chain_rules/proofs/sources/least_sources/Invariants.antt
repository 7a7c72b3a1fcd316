use Rattle.chain_rules.specs.Internal.LeastRows.{AreLeastFrom}
use Rattle.chain_rules.proofs.sources.least_sources.Given as goal

-- the rows of the loads passed are made
abbrev pub invariant-loop-l : goal.invariant-loop-l
invariant-loop-l l = AreLeastFrom l.trace l.chains l.least.items l.l

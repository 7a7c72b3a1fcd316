use Rattle.program_chains.specs.Internal.Keys.{HaveChains}
use Rattle.program_chains.proofs.chains.chains_of.Given as goal

-- the events passed have their chains
abbrev pub invariant-loop-event : goal.invariant-loop-event
invariant-loop-event l = HaveChains l.order l.events l.event-index l.keys.items l.chains l.count

use Rattle.std.proofs.Common.{◌≡◌}
use Rattle.chain_rules.specs.Chains.{addresses_below}
use Rattle.chain_rules.proofs.chains.address_count.Given as goal

-- the addresses of the events below n are below the count
abbrev pub invariant-loop-n : goal.invariant-loop-n
invariant-loop-n l = l.count ≡ addresses_below l.trace l.n

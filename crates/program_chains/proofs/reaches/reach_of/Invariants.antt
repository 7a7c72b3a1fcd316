use Rattle.std.proofs.Common.{◌≡◌, ◌*◌, length}
use Rattle.chain_reach.specs.Groups.{count_of}
use Rattle.program_chains.proofs.ReachFacts.{LeadsBelow}
use Rattle.program_chains.proofs.reaches.reach_of.Given as goal

-- the events below v are led to by what comes before them
abbrev pub invariant-loop-v : goal.invariant-loop-v
invariant-loop-v l = record {
  led : LeadsBelow l.order l.events l.fn.chains l.reach l.v;
  near : length l.near.items ≡ count_of l.fn.chains * 2;
}

use Rattle.program_chains.proofs.ReachFacts.{LeadsEarlier}
use Rattle.program_chains.proofs.reaches.join_earlier.Given as goal

-- the event is led to by what comes before it in the chains below d
abbrev pub invariant-loop-d : goal.invariant-loop-d
invariant-loop-d l = LeadsEarlier l.order l.events l.fn.reach l.reach l.v l.d

use Rattle.round_pool.specs.Claims.{IsOf}
use Rattle.tso_rules_tests.proofs.tests.rounds.claims.claim_all.Given as goal

abbrev pub invariant-loop-claimed : goal.invariant-loop-claimed
invariant-loop-claimed l = IsOf l.claims l.claimant

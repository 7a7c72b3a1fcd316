use Rattle.round_pool.proofs.ClaimFacts.{none_twice, has_all}
use Rattle.round_pool.proofs.claims.types.Claims.claim.Goals as goal

pub returns-then-try_next-clause-once : goal.returns-then-try_next-clause-once
returns-then-try_next-clause-once c = none_twice c.args.self.now c.try_next.new.claimant c.try_next.ensures.own

pub returns-then-try_next-clause-all : goal.returns-then-try_next-clause-all
returns-then-try_next-clause-all c = has_all c.args.self.now c.try_next.new.claimant

pub returns-clause-once : goal.returns-clause-once
returns-clause-once c = none_twice c.args.self.now c.loop-claimant.claimant c.loop-claimant.invariant.0

pub returns-clause-all : goal.returns-clause-all
returns-clause-all c = has_all c.args.self.now c.loop-claimant.claimant

use Rattle.std.proofs.Common.{arith}
use Rattle.unit_core.proofs.ReplayFacts.{FollowsActs-drain, FollowsActs-no_drain, HasIssued-drain}
use Rattle.unit_core.proofs.replays.drain_next.Goals as goal

pub returns-in_ok-drain-clause-issued : goal.returns-in_ok-drain-clause-issued
returns-in_ok-drain-clause-issued g c issued so_far =
    HasIssued-drain c.args.program.now issued c.args.p c.in_ok-drain.field-0 (g.U.MemoryUnit.value_of c.args.unit.now) (g.U.MemoryUnit.value_of c.drain.new.self)
    c.in_ok-drain.ensures.drained so_far

pub returns-in_ok-drain-clause-follows : goal.returns-in_ok-drain-clause-follows
returns-in_ok-drain-clause-follows g c issued =
    FollowsActs-drain c.args.program.now issued c.args.p c.in_ok-drain.field-0 (g.U.MemoryUnit.value_of c.args.unit.now) (g.U.MemoryUnit.value_of c.drain.new.self)
    (let below = c.if-p-processors.true in omega (arith, c.processors.ensures.count)) c.steps-steps.ensures.kept c.in_ok-drain.ensures.drained

pub returns-else-p-processors-clause-follows : goal.returns-else-p-processors-clause-follows
returns-else-p-processors-clause-follows g c issued =
    FollowsActs-no_drain c.args.program.now issued c.args.p (g.U.MemoryUnit.value_of c.args.unit.now) (let past = c.if-p-processors.false in omega (arith, c.processors.ensures.count))

use Rattle.std.proofs.Common.{subst, length, arith}
use Rattle.unit_core.specs.Records.{EmptiesBelow}
use Rattle.unit_core.proofs.OutcomeFacts.{AreOpsOf-drained}
use Rattle.unit_core.proofs.RecordFacts.{holds_ok}
use Rattle.unit_core.proofs.endings.drain_and_record.Goals as goal

pub record-requires-clause-ops : goal.record-requires-clause-ops
record-requires-clause-ops g c =
    let drains = c.in_ok-drain_all.ensures.drained in
    rw drains.steps (AreOpsOf-drained c.args.program.now 0 c.processors.result _ drains.drained drains.drains c.requires.ops)

pub record-requires-clause-empty : goal.record-requires-clause-empty
record-requires-clause-empty g c lawful p below = c.in_ok-drain_all.ensures.empty lawful p (omega (arith, c.processors.ensures.count))

pub returns-clause-empty : goal.returns-clause-empty
returns-clause-empty g c =
    holds_ok c.record.result (EmptiesBelow (g.U.MemoryUnit.value_of c.drain_all.new.unit) (length c.args.program.now.lists))
    (subst (EmptiesBelow (g.U.MemoryUnit.value_of c.drain_all.new.unit)) c.processors.ensures.count c.in_ok-drain_all.ensures.empty)

use Rattle.std.proofs.lemmas.Option.{slice_get-get_or}
use Rattle.units_for_tests.proofs.IssuingFacts.{Issues-next, Issues-none}
use Rattle.units_for_tests.proofs.issuing.issue_list.Goals as goal

pub loop-op-init : goal.loop-op-init
loop-op-init g c = Issues-none (g.U.MemoryUnit.value_of c.args.unit.now) c.args.p

pub loop-op-preserved : goal.loop-op-preserved
loop-op-preserved g c =
    Issues-next (g.U.MemoryUnit.value_of c.args.unit.now) (g.U.MemoryUnit.value_of c.loop-op.unit) (g.U.MemoryUnit.value_of c.perform.new.unit) c.args.p c.args.ops.now c.loop-op.op-index _
    c.in_ok-perform.field-0 (slice_get-get_or c.args.ops.now c.loop-op.op-index _ c.loop-op-test.true) c.loop-op.invariant c.in_ok-perform.ensures.answered c.in_ok-perform.ensures.taken

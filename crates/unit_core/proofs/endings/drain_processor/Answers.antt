use Rattle.std.proofs.Common.{subst, arith}
use Rattle.unit_core.specs.Units.{AnswersDrain}
use Rattle.unit_core.proofs.DrainFacts.{TakesDrains-then, TakesDrains-one}
use Rattle.unit_core.proofs.endings.drain_processor.Goals as goal

pub loop-preserved : goal.loop-preserved
loop-preserved g c =
    let old = g.U.MemoryUnit.value_of c.loop.unit in
    let new = g.U.MemoryUnit.value_of c.drain.new.self in
    let one = subst (λ b. AnswersDrain old new c.args.p b) c.if-branch.true c.in_ok-drain.ensures.drained in
    TakesDrains-then _ old new c.args.p c.args.p _ (omega arith) (omega arith) c.loop.invariant (TakesDrains-one old new c.args.p one)

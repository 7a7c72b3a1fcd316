use Rattle.std.proofs.Common.{suc, arith, add-one}
use Rattle.unit_core.proofs.DrainFacts.{TakesDrains-then, TakesDrains-wider}
use Rattle.unit_core.proofs.RecordFacts.{EmptiesBelow-next}
use Rattle.unit_core.proofs.endings.drain_all.Goals as goal

pub returns-in_err-drain_processor-clause-drained : goal.returns-in_err-drain_processor-clause-drained
returns-in_err-drain_processor-clause-drained g c =
    let p = c.loop-p.p in
    TakesDrains-wider _ _ (suc p) c.args.processors (omega arith)
    (TakesDrains-then _ _ _ 0 p (suc p) (omega arith) (omega arith) (TakesDrains-wider _ _ p (suc p) (omega arith) c.loop-p.invariant.drained) c.drain_processor.ensures.drained)

pub loop-p-preserved : goal.loop-p-preserved
loop-p-preserved g c =
    let p = c.loop-p.p in
    rw add-one record {
      drained = TakesDrains-then _ _ _ 0 p (suc p) (omega arith) (omega arith) (TakesDrains-wider _ _ p (suc p) (omega arith) c.loop-p.invariant.drained) c.drain_processor.ensures.drained;
      empty =
          EmptiesBelow-next (g.U.MemoryUnit.value_of c.loop-p.unit) (g.U.MemoryUnit.value_of c.drain_processor.new.unit) p c.loop-p.invariant.empty c.drain_processor.ensures.drained
          c.in_ok-drain_processor.ensures.kept c.in_ok-drain_processor.ensures.empty;
    }

pub returns-clause-empty : goal.returns-clause-empty
returns-clause-empty g c lawful p below = c.loop-p.invariant.empty lawful p (omega arith)

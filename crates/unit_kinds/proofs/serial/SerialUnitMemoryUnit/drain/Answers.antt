use Rattle.std.proofs.Common.{refl}
use Rattle.unit_kinds.proofs.SerialFacts.{none_waits}
use Rattle.unit_kinds.proofs.serial.SerialUnitMemoryUnit.drain.Goals as goal

pub returns-clause-drained : goal.returns-clause-drained
returns-clause-drained c = (none_waits c.args.self.now c.args._p, refl)

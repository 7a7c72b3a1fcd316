use Rattle.std.proofs.Common.{sym}
use Rattle.unit_kinds.proofs.SerialFacts.{none_waits}
use Rattle.unit_kinds.proofs.serial.SerialUnitMemoryUnit.waiting.Goals as goal

pub returns : goal.returns
returns c = sym (none_waits c.args.self.now c.args._p)

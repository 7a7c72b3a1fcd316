use Rattle.unit_kinds.proofs.SerialFacts.{IsSerial-load}
use Rattle.unit_kinds.proofs.serial.SerialUnitMemoryUnit.load.Goals as goal

pub invariant_of-self-2 : goal.invariant_of-self-2
invariant_of-self-2 c =
    rw (c.in_ok-append.ensures.steps, c.in_ok-append.ensures.first)
    (IsSerial-load c.self.inside.history.steps c.self.inside.history.first c.self.inside.memory.items c.args.p c.args.a _ c.requires.processor c.requires.address (c.index-r.ensures) c.self.invariant)

use Rattle.unit_kinds.proofs.SerialFacts.{IsSerial-stbar}
use Rattle.unit_kinds.proofs.serial.SerialUnitMemoryUnit.stbar.Goals as goal

pub invariant_of-self-2 : goal.invariant_of-self-2
invariant_of-self-2 c =
    rw (c.in_ok-append.ensures.steps, c.in_ok-append.ensures.first) (IsSerial-stbar c.self.inside.history.steps c.self.inside.history.first c.self.inside.memory.items c.args.p c.requires.processor c.self.invariant)

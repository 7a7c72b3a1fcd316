use Rattle.std.proofs.Common.{◌<◌, length, subst, arith}
use Rattle.store_buffers.specs.Buffers.{entries_of}
use Rattle.unit_core.specs.Units.{DrainsOne}
use Rattle.unit_faulty.specs.Faulty.{FaultyValue, faulty_unit}
use Rattle.unit_faulty.proofs.UnitFacts.{DrainsOne-drain_once}
use Rattle.unit_faulty.proofs.unit.FaultyUnitMemoryUnit.drain.Goals as goal

pub returns-clause-drained : goal.returns-clause-drained
returns-clause-drained c =
    let u = c.self.inside in
    let p = c.args.p in
    let waits : 0 < length (entries_of u.memory.parts p) = omega (arith, c.waiting.ensures.is) in
    let old : FaultyValue = record { steps = u.history.steps; first = u.history.first; state = u.memory } in
    let new : FaultyValue = record { steps = c.append.new.self.steps; first = c.append.new.self.first; state = c.drain_once.new.self } in
    subst (λ w. DrainsOne (faulty_unit w) (faulty_unit new) p) c.self.view_is
    (DrainsOne-drain_once old new p (omega (arith, c.waiting.ensures.kept.processors)) waits c.in_ok-append.ensures.steps c.in_ok-append.ensures.first c.drain_once.ensures)

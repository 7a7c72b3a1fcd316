use Rattle.std.proofs.Common.{◌∙◌, ap, subst}
use Rattle.unit_core.specs.declared.steps.Step.TheVariants.{Membar}
use Rattle.unit_core.specs.Units.{Takes}
use Rattle.unit_core.proofs.DrainedSteps.{reserved-pushed}
use Rattle.unit_faulty.specs.Faulty.{FaultyValue, faulty_design, faulty_unit}
use Rattle.unit_faulty.proofs.DrainFacts.{drain_times-design}
use Rattle.unit_faulty.proofs.UnitFacts.{Takes-after_drains}
use Rattle.unit_faulty.proofs.unit.FaultyUnitMemoryUnit.membar.Goals as goal

pub returns-clause-taken : goal.returns-clause-taken
returns-clause-taken c =
    let u = c.self.inside in
    let p = c.args.p in
    let drains = c.if-deviates.drains in
    let old : FaultyValue = record { steps = u.history.steps; first = u.history.first; state = u.memory } in
    let new : FaultyValue = record { steps = c.push_after_drains.new.self.steps; first = c.push_after_drains.new.self.first; state = c.drain_times.new.self } in
    let steps = reserved-pushed u.history.steps _ _ _ c.in_ok-reserve.ensures.steps c.push_after_drains.ensures.steps in
    let first = c.push_after_drains.ensures.first ∙ c.in_ok-reserve.ensures.first in
    let design = ap faulty_design c.drain_times.ensures.left ∙ drain_times-design drains c.deviates-deviates.new.self p
    ∙ ap faulty_design c.deviates-deviates.ensures.left in
    subst (λ w. Takes (faulty_unit w) (faulty_unit new) (Membar p)) c.self.view_is (Takes-after_drains old new drains (Membar p) steps first design)

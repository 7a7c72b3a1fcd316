use Rattle.std.proofs.Common.{◌∙◌, ap, subst}
use Rattle.unit_core.specs.declared.steps.Step.TheVariants.{Store}
use Rattle.unit_core.specs.Units.{Takes}
use Rattle.unit_core.proofs.DrainedSteps.{reserved-pushed}
use Rattle.unit_faulty.specs.Faulty.{FaultyValue, faulty_design, faulty_unit}
use Rattle.unit_faulty.proofs.DrainFacts.{drain_times-design}
use Rattle.unit_faulty.proofs.UnitFacts.{Takes-after_drains}
use Rattle.unit_faulty.proofs.unit.FaultyUnitMemoryUnit.store.Goals as goal

pub returns-clause-taken : goal.returns-clause-taken
returns-clause-taken c =
    let u = c.self.inside in
    let p = c.args.p in
    let drains = c.from-forced.result in
    let step = Store p c.args.a c.args.v in
    let old : FaultyValue = record { steps = u.history.steps; first = u.history.first; state = u.memory } in
    let new : FaultyValue = record { steps = c.push_after_drains.new.self.steps; first = c.push_after_drains.new.self.first; state = c.enter.new.self } in
    let steps = reserved-pushed u.history.steps _ _ _ c.in_ok-reserve.ensures.steps c.push_after_drains.ensures.steps in
    let first = c.push_after_drains.ensures.first ∙ c.in_ok-reserve.ensures.first in
    let design = ap faulty_design c.enter.ensures ∙ ap faulty_design c.drain_times.ensures.left ∙ drain_times-design drains u.memory p in
    subst (λ w. Takes (faulty_unit w) (faulty_unit new) step) c.self.view_is (Takes-after_drains old new drains step steps first design)

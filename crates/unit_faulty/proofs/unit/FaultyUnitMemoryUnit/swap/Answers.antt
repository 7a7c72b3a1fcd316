use Rattle.std.proofs.Common.{◌∙◌, ap, subst}
use Rattle.unit_core.specs.declared.steps.Step.TheVariants.{Swap}
use Rattle.unit_core.specs.Units.{Takes}
use Rattle.unit_core.proofs.DrainedSteps.{reserved-pushed}
use Rattle.unit_faulty.specs.Faulty.{FaultyValue, faulty_design, faulty_unit}
use Rattle.unit_faulty.proofs.DrainFacts.{drain_times-design, drained-room, swapped-design}
use Rattle.unit_faulty.proofs.UnitFacts.{Takes-after_drains}
use Rattle.unit_faulty.proofs.unit.FaultyUnitMemoryUnit.swap.Goals as goal

pub swap-r-requires-clause-room : goal.swap-r-requires-clause-room
swap-r-requires-clause-room c =
    rw (c.drain_times.ensures.left, c.waiting-waiting.ensures.is) (drained-room c.self.inside.memory c.args.p c.requires.processor c.waiting-waiting.ensures.kept)

pub returns-clause-taken : goal.returns-clause-taken
returns-clause-taken c =
    let u = c.self.inside in
    let p = c.args.p in
    let step = Swap p c.args.a c.swap-r.result c.args.v in
    let old : FaultyValue = record { steps = u.history.steps; first = u.history.first; state = u.memory } in
    let new : FaultyValue = record { steps = c.push_after_drains.new.self.steps; first = c.push_after_drains.new.self.first; state = c.swap-r.new.self } in
    let steps = reserved-pushed u.history.steps _ _ _ c.in_ok-reserve.ensures.steps c.push_after_drains.ensures.steps in
    let first = c.push_after_drains.ensures.first ∙ c.in_ok-reserve.ensures.first in
    let design = ap faulty_design c.swap-r.ensures.left ∙ swapped-design c.drain_times.new.self p c.args.a c.args.v ∙ ap faulty_design c.drain_times.ensures.left
    ∙ drain_times-design c.waiting-waiting.result u.memory p in
    subst (λ w. Takes (faulty_unit w) (faulty_unit new) step) c.self.view_is (Takes-after_drains old new c.waiting-waiting.result step steps first design)

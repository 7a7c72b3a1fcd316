use Rattle.unit_core.specs.declared.steps.Step.TheVariants.{Load}
use Rattle.unit_kinds.proofs.PartialFacts.{IsPartialUnit-step}
use Rattle.unit_kinds.proofs.partial.PartialOrderUnitMemoryUnit.load.Goals as goal

pub invariant_of-self-2 : goal.invariant_of-self-2
invariant_of-self-2 c =
    let u = c.self.inside in
    rw (c.in_ok-append.ensures.steps, c.in_ok-append.ensures.first)
    (IsPartialUnit-step u.history.steps u.history.first u.parts.state (Load c.args.p c.args.a c.seen-r.result) c.self.invariant (c.requires.processor, c.requires.address, c.seen-r.ensures))

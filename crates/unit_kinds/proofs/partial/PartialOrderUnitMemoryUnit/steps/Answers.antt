use Rattle.std.proofs.Common.{subst}
use Rattle.unit_core.specs.Units.{IsUnit}
use Rattle.unit_kinds.specs.Partial.{partial_unit}
use Rattle.unit_kinds.proofs.PartialFacts.{IsUnit-partial}
use Rattle.unit_kinds.proofs.partial.PartialOrderUnitMemoryUnit.steps.Goals as goal

pub returns-clause-kept : goal.returns-clause-kept
returns-clause-kept c =
    let u = c.self.inside in
    subst (λ u. IsUnit (partial_unit u)) c.self.view_is
    (IsUnit-partial (record { steps = u.history.steps; first = u.history.first; capacity = u.parts.capacity }) u.parts.state c.steps.ensures.kept c.self.invariant)

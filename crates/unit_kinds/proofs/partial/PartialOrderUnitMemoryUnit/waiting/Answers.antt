use Rattle.std.proofs.Common.{◌∙◌, sym, ap}
use Rattle.unit_core.specs.Units.{waiting_of}
use Rattle.unit_kinds.specs.Partial.{partial_unit}
use Rattle.unit_kinds.proofs.PartialFacts.{waiting-state}
use Rattle.unit_kinds.proofs.partial.PartialOrderUnitMemoryUnit.waiting.Goals as goal

pub returns : goal.returns
returns c =
    let u = c.self.inside in
    c.waiting.ensures.is ∙ sym (waiting-state (record { steps = u.history.steps; first = u.history.first; capacity = u.parts.capacity }) u.parts.state c.args.p c.self.invariant)
    ∙ ap (λ u. waiting_of (partial_unit u) c.args.p) c.self.view_is

use Rattle.std.proofs.Common.{subst}
use Rattle.unit_core.specs.Units.{IsUnit}
use Rattle.unit_kinds.specs.Buffer.{store_buffer_unit}
use Rattle.unit_kinds.proofs.BufferFacts.{IsUnit-store_buffer}
use Rattle.unit_kinds.proofs.buffer.StoreBufferUnitMemoryUnit.steps.Goals as goal

pub returns-clause-kept : goal.returns-clause-kept
returns-clause-kept c = subst (λ u. IsUnit (store_buffer_unit u)) c.self.view_is (IsUnit-store_buffer (record { steps = c.self.inside.history.steps; first = c.self.inside.history.first; capacity = c.self.inside.parts.capacity }) c.self.inside.parts c.steps.ensures.kept c.self.invariant)

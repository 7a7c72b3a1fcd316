use Rattle.std.proofs.Common.{◌∙◌, ap, refl}
use Rattle.unit_kinds.specs.Buffer.{store_buffer_unit}
use Rattle.unit_kinds.proofs.BufferFacts.{IsStoreBufferUnit-new, unit-new}
use Rattle.unit_kinds.proofs.buffer.StoreBufferUnit.new.Goals as goal

pub invariant_of-result : goal.invariant_of-result
invariant_of-result c = rw (c.in_ok-new-2.ensures.first, c.in_ok-new-2.ensures.steps, c.in_ok-new.ensures) (IsStoreBufferUnit-new c.args.capacity)

pub returns-clause-is : goal.returns-clause-is
returns-clause-is c = rw (c.in_ok-new-2.ensures.first, c.in_ok-new-2.ensures.steps, c.in_ok-new.ensures) refl

pub returns-clause-unit : goal.returns-clause-unit
returns-clause-unit c = ap store_buffer_unit (returns-clause-is c) ∙ unit-new c.args.capacity

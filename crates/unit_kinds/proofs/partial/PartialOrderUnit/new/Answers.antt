use Rattle.std.proofs.Common.{◌∙◌, ap, refl}
use Rattle.unit_kinds.specs.Partial.{partial_unit}
use Rattle.unit_kinds.proofs.PartialFacts.{IsPartialUnit-new, unit-new}
use Rattle.unit_kinds.proofs.partial.PartialOrderUnit.new.Goals as goal

pub invariant_of-result : goal.invariant_of-result
invariant_of-result c = rw (c.in_ok-new-2.ensures.first, c.in_ok-new-2.ensures.steps, c.in_ok-new.ensures) IsPartialUnit-new

pub returns-clause-is : goal.returns-clause-is
returns-clause-is c = rw (c.in_ok-new-2.ensures.first, c.in_ok-new-2.ensures.steps, c.in_ok-new.ensures) refl

pub returns-clause-unit : goal.returns-clause-unit
returns-clause-unit c = ap partial_unit (returns-clause-is c) ∙ unit-new c.args.capacity

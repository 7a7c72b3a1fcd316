use Rattle.std.proofs.Common.{ap, refl}
use Rattle.unit_faulty.specs.Faulty.{faulty_unit}
use Rattle.unit_faulty.proofs.unit.FaultyUnit.new.Goals as goal

pub returns-clause-is : goal.returns-clause-is
returns-clause-is c = rw (c.in_ok-new-2.ensures.first, c.in_ok-new-2.ensures.steps, c.in_ok-new.ensures) refl

pub returns-clause-unit : goal.returns-clause-unit
returns-clause-unit c = ap faulty_unit (returns-clause-is c)

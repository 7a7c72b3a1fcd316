use Rattle.std.proofs.Common.{refl}
use Rattle.units_for_tests.proofs.inventing.InventingUnit.new.Goals as goal

pub returns : goal.returns
returns c = rw (c.in_ok-new.ensures.first, c.in_ok-new.ensures.steps) refl

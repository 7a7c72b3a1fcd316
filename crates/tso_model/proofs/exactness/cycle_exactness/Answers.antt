use Rattle.tso_model.proofs.exactness.cycle_exactness.Goals as goal
use Rattle.tso_model.proofs.DerivedPaths.{derived_cycle_exactly}

pub returns : goal.returns
returns c = derived_cycle_exactly

use Rattle.tso_model.proofs.exactness.exactness.Goals as goal
use Rattle.tso_model.proofs.DerivedPaths.{derived_exactly}

pub returns : goal.returns
returns c = derived_exactly

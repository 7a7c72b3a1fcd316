use Rattle.tso_model.proofs.DerivedPaths.{derived_cycle_decided}
use Rattle.tso_model.proofs.rounds.derived_cycle_is_decided.Goals as goal

pub returns : goal.returns
returns c = derived_cycle_decided

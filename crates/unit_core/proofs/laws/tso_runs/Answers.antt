use Rattle.unit_core.specs.Machine.{first_state}
use Rattle.unit_core.proofs.RunFacts.{IsRunFrom-pso}
use Rattle.unit_core.proofs.laws.tso_runs.Goals as goal

pub returns : goal.returns
returns c memory steps run = IsRunFrom-pso (first_state memory) steps run

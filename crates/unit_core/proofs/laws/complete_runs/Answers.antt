use Rattle.unit_core.proofs.CountFacts.{complete-balanced}
use Rattle.unit_core.proofs.laws.complete_runs.Goals as goal

pub returns : goal.returns
returns c = complete-balanced

use Rattle.unit_core.proofs.LastDrainFacts.{last_drains}
use Rattle.unit_core.proofs.laws.last_drains_by_processor.Goals as goal

pub returns : goal.returns
returns c = last_drains

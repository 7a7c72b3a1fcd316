use Rattle.log_selections.proofs.UnwrittenFacts.{unwritten_no_order}
use Rattle.log_selections.proofs.laws.unwritten_loads_are_violations.Goals as goal

pub returns : goal.returns
returns c log x unwritten consistent = unwritten_no_order log x unwritten consistent

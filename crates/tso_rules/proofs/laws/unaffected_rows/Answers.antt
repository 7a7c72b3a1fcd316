use Rattle.tso_rules.proofs.AffectedFacts.{unaffected}
use Rattle.tso_rules.proofs.laws.unaffected_rows.Goals as goal

pub returns : goal.returns
returns c = unaffected

use Rattle.tso_rules.proofs.LawFacts.{next_row, base_justified, next_justified}
use Rattle.tso_rules.proofs.laws.rank_sets.Goals as goal

pub returns : goal.returns
returns c = record { rows = next_row; base = base_justified; next = next_justified }

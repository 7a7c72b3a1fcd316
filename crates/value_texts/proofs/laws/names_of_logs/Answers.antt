use Rattle.value_texts.proofs.HalfFacts.{log_halves}
use Rattle.value_texts.proofs.LogNameFacts.{names_distinct}
use Rattle.value_texts.proofs.laws.names_of_logs.Goals as goal

pub returns : goal.returns
returns c = record { halves = log_halves; distinct = names_distinct }

use Rattle.tso_model.proofs.Decided.{unwritten_decided}
use Rattle.tso_model.proofs.rounds.unwritten_load_is_decided.Goals as goal

pub returns : goal.returns
returns c = unwritten_decided

use Rattle.tso_model.proofs.DifferentEnds.{BasePair-different, InferredBy-different}
use Rattle.tso_model.proofs.rules.edges_join_different_numbers.Goals as goal

pub returns-clause-base : goal.returns-clause-base
returns-clause-base c = BasePair-different

pub returns-clause-inferred : goal.returns-clause-inferred
returns-clause-inferred c = InferredBy-different

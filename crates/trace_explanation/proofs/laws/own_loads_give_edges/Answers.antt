use Rattle.trace_explanation.proofs.ReferenceFacts.{own_load-is}
use Rattle.trace_explanation.proofs.laws.own_loads_give_edges.Goals as goal

pub returns : goal.returns
returns c = own_load-is

use Rattle.trace_reduction.proofs.SelectionFacts.{alike}
use Rattle.trace_reduction.proofs.kept_pairs.keeps_order.Goals as goal

pub returns : goal.returns
returns c told = alike c.is_earlier.result c.is_earlier-2.result c.is_earlier.ensures c.is_earlier-2.ensures told

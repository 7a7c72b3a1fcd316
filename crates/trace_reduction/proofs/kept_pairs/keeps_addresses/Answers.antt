use Rattle.trace_reduction.proofs.SelectionFacts.{alike}
use Rattle.trace_reduction.proofs.kept_pairs.keeps_addresses.Goals as goal

pub returns : goal.returns
returns c told = alike c.same_address.result c.same_address-2.result c.same_address.ensures c.same_address-2.ensures told

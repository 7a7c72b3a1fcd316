use Rattle.std.specs.Prelude.{slice_index_or}
use Rattle.acyclic_traces.proofs.PairFacts.{bit_test}
use Rattle.acyclic_traces.proofs.pairs.has_pair.Goals as goal

pub returns : goal.returns
returns c = bit_test (slice_index_or c.args.rows.now c.args.u 0) c.args.v

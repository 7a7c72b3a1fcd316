use Rattle.trace_streams.specs.Limits.{trace_read_limit}
use Rattle.text_streams.proofs.StreamFacts.{loses_prefix}
use Rattle.trace_reduction.proofs.ReductionFacts.{on_ok, reduction_read}
use Rattle.trace_reduction.proofs.reports.read_reduction.Goals as goal

pub returns-clause-reduction : goal.returns-clause-reduction
returns-clause-reduction g c =
    reduction_read (g.R.Read.remaining c.args.reader.now) c.in_ok-input.input.items c.deref.result.now c.reduce_text.result c.in_ok-input.ensures.prefix c.deref.ensures.value c.reduce_text.ensures.reduced

pub returns-clause-taken : goal.returns-clause-taken
returns-clause-taken g c = on_ok c.reduce_text.result (loses_prefix (g.R.Read.remaining c.args.reader.now) _ c.in_ok-input.input.items trace_read_limit c.in_ok-input.ensures.prefix c.in_ok-input.ensures.taken)

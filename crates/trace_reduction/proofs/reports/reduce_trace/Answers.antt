use Rattle.trace_reduction.proofs.ReductionFacts.{no_order_of_reader, violation_of_reader}
use Rattle.trace_reduction.proofs.reports.reduce_trace.Goals as goal

pub returns-clause-violation : goal.returns-clause-violation
returns-clause-violation g c = violation_of_reader (g.R.Read.remaining c.args.reader.now) _ _ c.in_ok-reduction.ensures.reduction

pub returns-clause-no_order : goal.returns-clause-no_order
returns-clause-no_order g c = no_order_of_reader (g.R.Read.remaining c.args.reader.now) _ _ c.in_ok-reduction.ensures.reduction

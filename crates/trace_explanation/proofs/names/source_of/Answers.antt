use Rattle.trace_explanation.proofs.SourceFacts.{source-number}
use Rattle.trace_explanation.proofs.names.source_of.Goals as goal

pub returns : goal.returns
returns c = source-number c.args.trace.now c.args.l c.source_number.result c.source_number.ensures.is c.source_number.ensures.all

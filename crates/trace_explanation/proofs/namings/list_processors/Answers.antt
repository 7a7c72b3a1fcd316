use Rattle.trace_explanation.specs.Names.{processor_at}
use Rattle.trace_explanation.proofs.TextFacts.{items-more}
use Rattle.trace_explanation.proofs.namings.list_processors.Goals as goal

pub loop-n-preserved : goal.loop-n-preserved
loop-n-preserved c = items-more (processor_at c.args.trace.now) c.loop-n.n _ _ _ c.in_ok-push.ensures.items c.processor_of.ensures c.loop-n.invariant

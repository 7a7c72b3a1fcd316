use Rattle.trace_explanation.specs.Names.{address_at}
use Rattle.trace_explanation.proofs.TextFacts.{items-more}
use Rattle.trace_explanation.proofs.namings.list_addresses.Goals as goal

pub loop-n-preserved : goal.loop-n-preserved
loop-n-preserved c = items-more (address_at c.args.trace.now) c.loop-n.n _ _ _ c.in_ok-push.ensures.items c.address_of.ensures c.loop-n.invariant

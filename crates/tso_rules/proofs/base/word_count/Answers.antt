use Rattle.std.proofs.Common.{arith}
use Rattle.tso_ops.proofs.EventFacts.{event_total-most}
use Rattle.tso_rules.proofs.base.word_count.Goals as goal

pub returns-clause-small : goal.returns-clause-small
returns-clause-small c = omega (arith, c.div_ceil.ensures, c.node_count.ensures.count, event_total-most c.args.trace.now c.events-events.ensures.kept)

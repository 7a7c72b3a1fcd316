use Rattle.std.proofs.Common.{◌∙◌, ap, sym, Some, arith}
use Rattle.program_chains.specs.LogEvents.{as_trace_event}
use Rattle.value_check.proofs.EventFacts.{event_read, no_event_read}
use Rattle.value_check.proofs.known.Known.event.Goals as goal

pub returns-then-x-len-clause-some : goal.returns-then-x-len-clause-some
returns-then-x-len-clause-some c = λ t are.
    event_read t c.args.self.now.events.items are c.args.x c.index.result.now (omega arith) ∙ ap (λ e. Some (as_trace_event e)) (sym c.index.ensures)

pub returns-else-x-len-clause-none : goal.returns-else-x-len-clause-none
returns-else-x-len-clause-none c = λ t are event. no_event_read t c.args.self.now.events.items are c.args.x (omega arith) event

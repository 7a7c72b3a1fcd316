use Rattle.std.proofs.Common.{arith}
use Rattle.log_order_check.proofs.EventFacts.{no_event_past, no_event_zero, number_read}
use Rattle.log_order_check.proofs.tables.Tables.event.Goals as goal

pub returns-in_err-x-clause-none : goal.returns-in_err-x-clause-none
returns-in_err-x-clause-none c = rw c.from_residual.ensures (λ t are. no_event_zero t c.args.n c.in_err-x.ensures)

pub returns-then-x-len-clause-some : goal.returns-then-x-len-clause-some
returns-then-x-len-clause-some c = λ t are.
    number_read t c.args.self.now.events.items are c.args.n c.in_ok-x.x c.index.result.now c.in_ok-x.ensures.0 c.in_ok-x.ensures.1 (omega (arith, c.if-x-len.true, c.len.ensures)) c.index.ensures

pub returns-else-x-len-clause-none : goal.returns-else-x-len-clause-none
returns-else-x-len-clause-none c = λ t are.
    no_event_past t c.args.self.now.events.items are c.args.n c.in_ok-x.x c.in_ok-x.ensures.0 c.in_ok-x.ensures.1 (omega (arith, c.if-x-len.false, c.len.ensures))

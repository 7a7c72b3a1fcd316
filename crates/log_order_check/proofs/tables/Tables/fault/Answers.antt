use Rattle.std.proofs.Common.{◌∙◌, ap, sym, subst, get_or, None}
use Rattle.log_order_check.specs.Internal.Tables.{IsProgramFault}
use Rattle.log_order_check.proofs.EventFacts.{no_event_zero}
use Rattle.log_order_check.proofs.TableFacts.{fault_at}
use Rattle.log_order_check.proofs.tables.Tables.fault.Goals as goal

pub returns-in-Some : goal.returns-in-Some
returns-in-Some c = λ t order tables event.
    subst (IsProgramFault t order c.args.n) (sym (c.fault_in.ensures ∙ ap (λ xs. get_or xs c.in-Some.x None) c.deref.ensures.value))
    (fault_at t order c.args.self.now tables c.args.n c.in-Some.x c.in-Some.ensures.0 c.in-Some.ensures.1 event)

pub returns-in-None : goal.returns-in-None
returns-in-None c = λ t order tables event. absurd (no_event_zero t c.args.n c.in-None.ensures event)

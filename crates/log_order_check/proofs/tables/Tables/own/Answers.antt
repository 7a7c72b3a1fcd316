use Rattle.std.proofs.Common.{◌∙◌, ap, sym, subst, slice_index}
use Rattle.log_order_check.specs.Internal.Most.{IsMost}
use Rattle.log_order_check.specs.Internal.Tables.{IsOwnStore}
use Rattle.log_order_check.proofs.EventFacts.{no_event_zero}
use Rattle.log_order_check.proofs.TableFacts.{own_at}
use Rattle.log_order_check.proofs.tables.Tables.own.Goals as goal

pub returns-in-Some : goal.returns-in-Some
returns-in-Some c = λ t order tables event.
    subst (IsMost (IsOwnStore t c.args.n) c.args.self.now.places.items) (sym (c.place_in.ensures ∙ ap (λ xs. slice_index xs c.in-Some.x) c.deref.ensures.value))
    (own_at t order c.args.self.now tables c.args.n c.in-Some.x c.in-Some.ensures.0 c.in-Some.ensures.1 event)

pub returns-in-None : goal.returns-in-None
returns-in-None c = λ t order tables event. absurd (no_event_zero t c.args.n c.in-None.ensures event)

use Rattle.std.proofs.Common.{◌∙◌, sym, ap, slice_get}
use Rattle.tso_ops.specs.Events.{events_of}
use Rattle.tso_ops.proofs.ReadFacts.{option_copied-get, event_at-before_first, event_at-place}
use Rattle.tso_ops.proofs.traces.Trace.event.Goals as goal

pub returns-in_err-checked_sub : goal.returns-in_err-checked_sub
returns-in_err-checked_sub c = c.from_residual.ensures ∙ sym (event_at-before_first c.args.self.now c.args.n c.in_err-checked_sub.ensures)

pub returns : goal.returns
returns c =
    let k = c.in_ok-checked_sub.field-0 in
    c.copied.ensures ∙ option_copied-get c.deref.result.now k c.get.result c.get.ensures.lookup
    ∙ ap (λ events. slice_get events k) (c.deref.ensures.value ∙ c.self.invariant.events_are ∙ ap events_of c.self.view_is)
    ∙ sym (event_at-place c.args.self.now c.args.n k c.in_ok-checked_sub.ensures.0 c.in_ok-checked_sub.ensures.1)

use Rattle.std.proofs.Common.{◌≡◌, ◌∙◌, ap, map}
use Rattle.std.proofs.lemmas.Result.{IfOk-weaker}
use Rattle.tso_ops.specs.Values.{rows}
use Rattle.tso_ops.specs.Events.{events_of, events_of_lists}
use Rattle.log_text.specs.LogValues.{logged_outcomes}
use Rattle.program_chains.specs.LogEvents.{AreEventsOf, as_trace_event, log_trace}
use Rattle.program_chains.proofs.events.log_events.Goals as goal

pub returns : goal.returns
unfolding events_of
returns c =
    IfOk-weaker c.list_events.result (λ events. map as_trace_event events.items ≡ events_of_lists 0 (map logged_outcomes (rows c.deref.result.now))) (λ events. AreEventsOf (log_trace c.args.log.now) events.items)
    (λ events are. are ∙ ap (λ lists. events_of_lists 0 (map logged_outcomes (rows lists))) c.deref.ensures.value) c.list_events.ensures

use Rattle.std.proofs.Common.{◌∙◌, ◌++◌, ◌+◌, ap, sym, drop, map, append_assoc}
use Rattle.tso_ops.specs.Values.{rows}
use Rattle.tso_ops.specs.Events.{events_from, events_of_lists}
use Rattle.log_text.specs.LogValues.{logged_outcomes}
use Rattle.program_chains.specs.LogEvents.{as_trace_event}
use Rattle.program_chains.proofs.EventFacts.{lists-next}
use Rattle.program_chains.proofs.events.list_events.Goals as goal

pub loop-processor-preserved : goal.loop-processor-preserved
loop-processor-preserved c =
    let i = c.loop-processor.processor in
    let lists = c.args.lists.now in
    let done = map as_trace_event c.loop-processor.events.items in
    let rest = events_of_lists (i + 1) (map logged_outcomes (drop (i + 1) (rows lists))) in
    ap (λ prefix. prefix ++ rest) (c.in_ok-push_list.ensures ∙ ap (λ row. done ++ events_from i 0 0 (logged_outcomes row)) c.deref.ensures.value)
    ∙ append_assoc done _ rest
    ∙ ap (λ more. done ++ more) (sym (lists-next lists i c.index-lists-processor.result c.loop-processor-test.true c.index-lists-processor.is))
    ∙ c.loop-processor.invariant

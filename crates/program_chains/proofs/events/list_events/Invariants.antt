use Rattle.std.proofs.Common.{◌≡◌, ◌++◌, map, drop}
use Rattle.tso_ops.specs.Values.{rows}
use Rattle.tso_ops.specs.Events.{events_of_lists}
use Rattle.log_text.specs.LogValues.{logged_outcomes}
use Rattle.program_chains.specs.LogEvents.{as_trace_event}
use Rattle.program_chains.proofs.events.list_events.Given as goal

-- the events so far, and those of the lists that are left, are the events of all
abbrev pub invariant-loop-processor : goal.invariant-loop-processor
invariant-loop-processor l =
    map as_trace_event l.events.items ++ events_of_lists l.processor (map logged_outcomes (drop l.processor (rows l.lists))) ≡
    events_of_lists 0 (map logged_outcomes (rows l.lists))

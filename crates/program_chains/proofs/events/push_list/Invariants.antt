use Rattle.std.proofs.Common.{◌≡◌, ◌++◌, ◌≤◌, map, drop}
use Rattle.tso_ops.specs.Events.{events_from}
use Rattle.log_text.specs.LogValues.{logged_outcomes}
use Rattle.program_chains.specs.LogEvents.{as_trace_event}
use Rattle.program_chains.proofs.events.push_list.Given as goal

-- what is pushed, and the events of the operations that are left, are the events of all
abbrev pub invariant-loop-logged : goal.invariant-loop-logged
invariant-loop-logged l = record {
  whole : map as_trace_event l.events.items ++ events_from l.processor l.place.barriers l.place.stbars (logged_outcomes (drop l.logged-index l.list)) ≡
      map as_trace_event l.fn.events.items ++ events_from l.processor 0 0 (logged_outcomes l.list);
  processor : l.place.processor ≡ l.processor;
  barriers : l.place.barriers ≤ l.logged-index;
  stbars : l.place.stbars ≤ l.logged-index;
}

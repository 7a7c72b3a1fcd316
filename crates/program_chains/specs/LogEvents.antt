-- The events of a log, which stand for those of its operations.
use Rattle.std.specs.Prelude.{◌≡◌, List, map}
use Rattle.tso_ops.specs.Values.{TraceValue}
use Rattle.tso_ops.specs.declared.events.Event.{Event}
use Rattle.tso_ops.specs.Events.{events_of}
use Rattle.log_text.specs.declared.logs.Log.{Log}
use Rattle.log_text.specs.LogValues.{log_value, log_operations}
use Rattle.program_chains.specs.declared.events.LogEvent.{LogEvent}

-- the event as one of a trace: a log's has any address of 64 bits
abbrev pub as_trace_event : LogEvent → Event
as_trace_event e = record { proc = e.processor; load = e.load; swap = e.swap; a = e.address; value = e.value; bars = e.barriers; stbars = e.stbars }

-- the log's operations as a trace, of which no limit holds
abbrev pub log_trace : Log → TraceValue
log_trace log = log_operations (log_value log)

-- they are the trace's events, in the order of their numbers
abbrev pub AreEventsOf : TraceValue → List LogEvent → Type 0
AreEventsOf t events = map as_trace_event events ≡ events_of t

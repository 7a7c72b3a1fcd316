-- How the events of operations are pushed.
use Rattle.std.specs.Prelude.{◌≡◌, ◌≤◌, ◌+◌, ◌++◌, List, ◌∷◌, map}
use Rattle.tso_ops.specs.declared.ops.Outcome.{Outcome}
use Rattle.tso_ops.specs.Events.{events_from}
use Rattle.log_text.specs.declared.logs.LogOperation.{LogOperation}
use Rattle.log_text.specs.LogValues.{logged_outcome}
use Rattle.program_chains.specs.declared.events.LogEvent.{LogEvent}
use Rattle.program_chains.specs.declared.events.Place.{Place}
use Rattle.program_chains.specs.LogEvents.{as_trace_event}

-- The operation's events were pushed, and the next place is the one after it: with those of other operations there they are the same as before.
pub record PushesOperation (place : Place) (operation : LogOperation) (old : List LogEvent) (next : Place) (new : List LogEvent) : Type 0 where
  pub events : (rest : List Outcome) → map as_trace_event new ++ events_from place.processor next.barriers next.stbars rest ≡
      map as_trace_event old ++ events_from place.processor place.barriers place.stbars (logged_outcome operation ∷ rest)
  pub processor : next.processor ≡ place.processor
  pub barriers : next.barriers ≤ place.barriers + 1
  pub stbars : next.stbars ≤ place.stbars + 1

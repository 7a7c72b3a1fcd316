use Rattle.std.proofs.Common.{◌≡◌, ◌++◌, take, string_bytes}
use Rattle.std.specs.List.{flat_map}
use Rattle.trace_explanation.specs.Namings.{naming_of}
use Rattle.trace_explanation.specs.Places.{place_text}
use Rattle.decision_explanation.proofs.cases.push_places.Given as goal

abbrev pub invariant-loop-event : goal.invariant-loop-event
invariant-loop-event l = string_bytes l.text ≡ string_bytes l.fn.text ++ flat_map (place_text (naming_of l.named) l.named) (take l.event-index l.events)

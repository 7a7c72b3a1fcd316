-- Events by their numbers.
use Rattle.std.proofs.Common.{◌≡◌, ◌∙◌, sym, ap, subst, ℕ, suc, ◌-◌, ◌<◌, ◌≤◌, Some, List, length, get_or, arith}
use Rattle.std.proofs.lemmas.List.{get_or_default}
use Rattle.tso_ops.specs.Values.{TraceValue}
use Rattle.tso_ops.specs.Events.{event_at, IsEvent}
use Rattle.tso_ops.proofs.NumberFacts.{event_above_zero, IsEvent-within}
use Rattle.program_chains.specs.declared.events.LogEvent.{LogEvent}
use Rattle.program_chains.specs.LogEvents.{as_trace_event, AreEventsOf}
use Rattle.program_chains.specs.Internal.Keys.{no_event}
use Rattle.program_chains.proofs.EventFacts.{at_number, total}

module _ (t : TraceValue) (events : List LogEvent) (are : AreEventsOf t events) where
  -- the event at an index
  pub event_read : (x : ℕ) (e : LogEvent) → x < length events → e ≡ get_or events x e → event_at t (suc x) ≡ Some (as_trace_event e)
  event_read x e within read = at_number t events are x within ∙ ap (λ (y : LogEvent). Some (as_trace_event y)) (sym (read ∙ get_or_default events x e no_event within))

  -- the event of a number, at the index before
  pub number_read : (n x : ℕ) (e : LogEvent) → 1 ≤ n → x ≡ n - 1 → x < length events → e ≡ get_or events x e → event_at t n ≡ Some (as_trace_event e)
  number_read n x e above before within read = (let next : suc x ≡ n = omega arith in subst (λ m. event_at t m ≡ Some (as_trace_event e)) next (event_read x e within read))

  -- past the events there is none
  pub no_event_past : (n x : ℕ) → 1 ≤ n → x ≡ n - 1 → length events ≤ x → IsEvent t n → ⊥
  no_event_past n x above before past event = (let low = IsEvent-within t n event in omega (arith, low, above, before, past, total t events are))

-- nor before them
pub no_event_zero : (t : TraceValue) (n : ℕ) → (1 ≤ n → ⊥) → IsEvent t n → ⊥
no_event_zero t n none event = none (let above = event_above_zero t n event in omega (arith, above))

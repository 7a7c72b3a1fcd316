-- Lemmas on the events of a log: what they are by their table.
use Rattle.std.proofs.Common.{◌≡◌, ◌∙◌, ◌↔◌, sym, ap, refl, ℕ, suc, ◌<◌, ◌≤◌, Bool, true, false, not, IsTrue, List, length, Some, arith}
use Rattle.std.specs.Prelude.{get_or, slice_get}
use Rattle.std.specs.Option.{option_map}
use Rattle.std.proofs.lemmas.Option.{slice_get-get_or, slice_get-map}
use Rattle.std.proofs.lemmas.Bool.{false≢true}
use Rattle.tso_ops.specs.declared.events.Event.{Event}
use Rattle.tso_ops.specs.Values.{TraceValue}
use Rattle.tso_ops.specs.Events.{event_at, Earlier, IsEvent, IsLoad, IsStore, IsSwapLoad, SameAddress}
use Rattle.tso_ops.proofs.NumberFacts.{event_unique}
use Rattle.program_chains.specs.declared.events.LogEvent.{LogEvent}
use Rattle.program_chains.specs.LogEvents.{as_trace_event, AreEventsOf}
use Rattle.program_chains.proofs.EventFacts.{same_number}

-- the event of a number is the one at the index before
pub event_read : (t : TraceValue) (events : List LogEvent) → AreEventsOf t events → (x : ℕ) (d : LogEvent) → x < length events → event_at t (suc x) ≡ Some (as_trace_event (get_or events x d))
unfolding event_at
event_read t events are x d below =
    ap (λ all. slice_get all x) (sym are) ∙ slice_get-map as_trace_event events x ∙ ap (option_map as_trace_event) (slice_get-get_or events x d below)

-- past the events there is none
pub no_event_read : (t : TraceValue) (events : List LogEvent) → AreEventsOf t events → (x : ℕ) → length events ≤ x → IsEvent t (suc x) → ⊥
no_event_read t events are x past event = let within = (same_number t events are x event.0 event.1).0 in omega (arith, within, past)

-- a test that isn't true is false
pub not_true : (b : Bool) → IsTrue (not b) → b ≡ false
not_true true is = absurd (false≢true is)
not_true false is = refl

pub false_not : (b : Bool) → b ≡ false → IsTrue (not b)
false_not true is = sym is
false_not false is = refl

module _ (t : TraceValue) (n : ℕ) (e : LogEvent) (at : event_at t n ≡ Some (as_trace_event e)) where
  -- the event of a number is this one
  this : (other : Event) → event_at t n ≡ Some other → as_trace_event e ≡ other
  this other is = event_unique t n (as_trace_event e) other at is

  pub load_of : IsTrue e.load ↔ IsLoad t n
  load_of = (λ is. (as_trace_event e, at, is), λ load. ap (λ (v : Event). v.load) (this load.0 load.1) ∙ load.2)

  pub swap_load_of : (IsTrue e.load × IsTrue e.swap) ↔ IsSwapLoad t n
  swap_load_of = (
    λ is. (as_trace_event e, at, is.0, is.1),
    λ swap. (ap (λ (v : Event). v.load) (this swap.0 swap.1) ∙ swap.2, ap (λ (v : Event). v.swap) (this swap.0 swap.1) ∙ swap.3),
  )

  pub store_of : IsTrue (not e.load) ↔ IsStore t n
  store_of = (λ is. (as_trace_event e, at, not_true e.load is), λ store. false_not e.load (ap (λ (v : Event). v.load) (this store.0 store.1) ∙ store.2))

module _ (t : TraceValue) (m n : ℕ) (d e : LogEvent) (at_m : event_at t m ≡ Some (as_trace_event d)) (at_n : event_at t n ≡ Some (as_trace_event e)) where
  pub one_address_of : (d.address ≡ e.address) ↔ SameAddress t m n
  one_address_of = (
    λ is. (as_trace_event d, as_trace_event e, at_m, at_n, is),
    λ same. ap (λ (v : Event). v.a) (event_unique t m (as_trace_event d) same.0 at_m same.2) ∙ same.4
        ∙ ap (λ (v : Event). v.a) (sym (event_unique t n (as_trace_event e) same.1 at_n same.3)),
  )

  pub earlier_of : ((d.processor ≡ e.processor) × (m < n)) ↔ Earlier t m n
  earlier_of = (
    λ is. (as_trace_event d, as_trace_event e, at_m, at_n, is.0, is.1),
    λ earlier. (
      ap (λ (v : Event). v.proc) (event_unique t m (as_trace_event d) earlier.0 at_m earlier.2) ∙ earlier.4
          ∙ ap (λ (v : Event). v.proc) (sym (event_unique t n (as_trace_event e) earlier.1 at_n earlier.3)),
      earlier.5,
    ),
  )

-- events of one address are so from either side, and with a third
pub address_turned : (t : TraceValue) (m n : ℕ) → SameAddress t m n → SameAddress t n m
address_turned t m n same = (same.1, same.0, same.3, same.2, sym same.4)

pub address_joined : (t : TraceValue) (m n o : ℕ) → SameAddress t m n → SameAddress t n o → SameAddress t m o
address_joined t m n o first second =
    (first.0, second.1, first.2, second.3, first.4 ∙ ap (λ (v : Event). v.a) (event_unique t n first.1 second.0 first.3 second.2) ∙ second.4)

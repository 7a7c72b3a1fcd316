-- The events of a log, list by list and by their numbers.
use Rattle.std.proofs.Common.{◌≡◌, ◌∙◌, refl, sym, ap, ℕ, suc, Some, ◌+◌, ◌<◌, ◌≤◌, List, [], ◌∷◌, ◌++◌, length, get_or, slice_get, drop, map, arith, add-one}
use Rattle.std.specs.Global.{Vec}
use Rattle.std.proofs.lemmas.List.{drop-map, drop_more, drop_all, length-map, get_or-map}
use Rattle.std.proofs.lemmas.Option.{slice_get-get_or}
use Rattle.tso_ops.specs.declared.events.Event.{Event}
use Rattle.tso_ops.specs.Values.{TraceValue, rows}
use Rattle.tso_ops.specs.Events.{events_from, events_of_lists, event_at, event_total}
use Rattle.tso_ops.proofs.NumberFacts.{event_at-within, event_unique}
use Rattle.log_text.specs.declared.logs.LoggedOperation.{LoggedOperation}
use Rattle.log_text.specs.LogValues.{logged_outcome, logged_outcomes}
use Rattle.program_chains.specs.declared.events.LogEvent.{LogEvent}
use Rattle.program_chains.specs.LogEvents.{as_trace_event, AreEventsOf}
use Rattle.program_chains.specs.Internal.Keys.{no_event, event_in}

-- the lists from one of them on
rows-next : (lists : List (Vec LoggedOperation)) (i : ℕ) (x : Vec LoggedOperation) → i < length lists → x ≡ get_or lists i x →
    drop i (rows lists) ≡ x.items ∷ drop (i + 1) (rows lists)
rows-next lists i x within at =
    let items = λ (row : Vec LoggedOperation). row.items in
    drop-map items i lists ∙ ap (map items) (drop_more lists i x within) ∙ ap (λ (y : Vec LoggedOperation). y.items ∷ map items (drop (i + 1) lists)) (sym at)
    ∙ ap (λ ys. x.items ∷ ys) (sym (drop-map items (i + 1) lists))

pub lists-next : (lists : List (Vec LoggedOperation)) (i : ℕ) (x : Vec LoggedOperation) → i < length lists → x ≡ get_or lists i x →
    events_of_lists i (map logged_outcomes (drop i (rows lists))) ≡
    events_from i 0 0 (logged_outcomes x.items) ++ events_of_lists (i + 1) (map logged_outcomes (drop (i + 1) (rows lists)))
lists-next lists i x within at = rw (rows-next lists i x within at, add-one) refl

pub lists-all : (lists : List (Vec LoggedOperation)) (i : ℕ) → length lists ≤ i → events_of_lists i (map logged_outcomes (drop i (rows lists))) ≡ []
lists-all lists i all =
    ap (λ ls. events_of_lists i (map logged_outcomes ls)) (drop_all i (rows lists) (omega (arith, length-map lists (λ (row : Vec LoggedOperation). row.items))))

-- the outcomes from one of them on
pub outcomes-next : (list : List LoggedOperation) (i : ℕ) (x : LoggedOperation) → i < length list → x ≡ get_or list i x →
    logged_outcomes (drop i list) ≡ logged_outcome x.operation ∷ logged_outcomes (drop (i + 1) list)
outcomes-next list i x within at =
    ap logged_outcomes (drop_more list i x within) ∙ ap (λ (y : LoggedOperation). logged_outcome y.operation ∷ logged_outcomes (drop (i + 1) list)) (sym at)

-- ---- events by their numbers

pub total : (t : TraceValue) (events : List LogEvent) → AreEventsOf t events → length events ≡ event_total t
total t events are = sym (length-map events as_trace_event) ∙ ap length are

-- the event of a number
pub at_number : (t : TraceValue) (events : List LogEvent) → AreEventsOf t events → (x : ℕ) → x < length events → event_at t (suc x) ≡ Some (event_in events x)
unfolding event_at
at_number t events are x within =
    ap (λ es. slice_get es x) (sym are) ∙ slice_get-get_or (map as_trace_event events) x (as_trace_event no_event) (omega (arith, within, length-map events as_trace_event))
    ∙ ap Some (get_or-map as_trace_event events x no_event (as_trace_event no_event) within)

-- what event has a number
pub same_number : (t : TraceValue) (events : List LogEvent) → AreEventsOf t events → (x : ℕ) (e : Event) → event_at t (suc x) ≡ Some e → (x < length events) × (e ≡ event_in events x)
same_number t events are x e at =
    let within : x < length events = (let low = (event_at-within t (suc x) e at).1 in omega (arith, low, total t events are)) in
    (within, event_unique t (suc x) e (event_in events x) at (at_number t events are x within))

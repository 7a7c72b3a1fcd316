use Rattle.program_chains.specs.LogEvents.{as_trace_event}
use Rattle.log_order_check.proofs.BoundFacts.{met_load, met_store, unmet_load_op, unmet_membar, unmet_stbar, unmet_store_store}
use Rattle.log_order_check.proofs.faults.first_fault.Goals as goal

pub returns-then-bounds-place : goal.returns-then-bounds-place
returns-then-bounds-place c = λ t order places n at are is_place bounds.
    unmet_load_op t order places n c.args.place (as_trace_event c.args.event) at are is_place c.args.bounds bounds c.if-bounds-place.true

pub returns-then-bounds-place-2 : goal.returns-then-bounds-place-2
returns-then-bounds-place-2 c = λ t order places n at are is_place bounds.
    unmet_membar t order places n c.args.place (as_trace_event c.args.event) at are is_place c.args.bounds bounds c.if-bounds-place.false
    (as_trace_event c.args.event, at, c.if-event.true) c.if-bounds-place-2.true

pub returns-then-event : goal.returns-then-event
returns-then-event c = λ t order places n at are is_place bounds.
    met_load t order places n c.args.place (as_trace_event c.args.event) at are is_place c.args.bounds bounds c.if-bounds-place.false
    (as_trace_event c.args.event, at, c.if-event.true) c.if-bounds-place-2.false

pub returns-then-bounds-place-3 : goal.returns-then-bounds-place-3
returns-then-bounds-place-3 c = λ t order places n at are is_place bounds.
    unmet_store_store t order places n c.args.place (as_trace_event c.args.event) at are is_place c.args.bounds bounds c.if-bounds-place.false
    (as_trace_event c.args.event, at, c.if-event.false) c.if-bounds-place-3.true

pub returns-then-bounds-place-4 : goal.returns-then-bounds-place-4
returns-then-bounds-place-4 c = λ t order places n at are is_place bounds.
    unmet_stbar t order places n c.args.place (as_trace_event c.args.event) at are is_place c.args.bounds bounds c.if-bounds-place.false
    (as_trace_event c.args.event, at, c.if-event.false) c.if-bounds-place-3.false c.if-bounds-place-4.true

pub returns : goal.returns
returns c = λ t order places n at are is_place bounds.
    met_store t order places n c.args.place (as_trace_event c.args.event) at are is_place c.args.bounds bounds c.if-bounds-place.false
    (as_trace_event c.args.event, at, c.if-event.false) c.if-bounds-place-3.false c.if-bounds-place-4.false

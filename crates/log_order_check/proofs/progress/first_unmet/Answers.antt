use Rattle.std.proofs.Common.{◌∙◌, sym, arith}
use Rattle.std.proofs.lemmas.Bool.{false≢true}
use Rattle.program_chains.specs.LogEvents.{as_trace_event}
use Rattle.order_check.proofs.AxiomFacts.{nothing_unmet}
use Rattle.log_order_check.proofs.UnmetFacts.{all_load, all_store, unmet_atomicity, unmet_value}
use Rattle.log_order_check.proofs.progress.first_unmet.Goals as goal

pub returns-in_err-event : goal.returns-in_err-event
returns-in_err-event c = rw c.from_residual.ensures (λ t tables passed. nothing_unmet t c.args.order.now c.args.n (c.in_err-event.ensures.none t tables.events))

pub returns-in-Some : goal.returns-in-Some
returns-in-Some c = λ t tables passed. c.in-Some.ensures t c.args.order.now tables (as_trace_event c.in_ok-event.event, c.in_ok-event.ensures.some t tables.events)

pub returns-then-reads_last : goal.returns-then-reads_last
returns-then-reads_last c = λ t tables passed.
    let at = c.in_ok-event.ensures.some t tables.events in
    let e = as_trace_event c.in_ok-event.event in
    let program = c.in_default.ensures t c.args.order.now tables (e, at) in
    all_load t c.args.order.now c.args.n program (e, at, c.if-event.true) ((c.reads_last.ensures t tables passed at).0 c.if-reads_last.true)

pub returns-then-event : goal.returns-then-event
returns-then-event c = λ t tables passed.
    let at = c.in_ok-event.ensures.some t tables.events in
    let e = as_trace_event c.in_ok-event.event in
    let program = c.in_default.ensures t c.args.order.now tables (e, at) in
    unmet_value t c.args.order.now c.args.n program (e, at, c.if-event.true) (λ reads. false≢true (sym c.if-reads_last.false ∙ (c.reads_last.ensures t tables passed at).1 reads))

pub returns-then-progress-place : goal.returns-then-progress-place
returns-then-progress-place c = λ t tables passed.
    let at = c.in_ok-event.ensures.some t tables.events in
    let e = as_trace_event c.in_ok-event.event in
    let program = c.in_default.ensures t c.args.order.now tables (e, at) in
    unmet_atomicity t c.args.order.now c.args.n program c.args.tables.now.places.items tables.places (e, at, c.if-event.false) c.args.progress.now.awaited passed.awaited
    (omega (arith, c.if-progress-place.true, c.place.ensures))

pub returns : goal.returns
returns c = λ t tables passed.
    let at = c.in_ok-event.ensures.some t tables.events in
    let e = as_trace_event c.in_ok-event.event in
    let program = c.in_default.ensures t c.args.order.now tables (e, at) in
    all_store t c.args.order.now c.args.n program c.args.tables.now.places.items tables.places (e, at, c.if-event.false) c.args.progress.now.awaited passed.awaited
    (omega (arith, c.if-progress-place.false, c.place.ensures))

use Rattle.std.proofs.Common.{◌≡◌, ◌∙◌, ◌+◌, ap, sym, suc, Some, slice_index, subst, max, refl, nat_eq, arith}
use Rattle.std.specs.HashMap.{Updates}
use Rattle.std.proofs.lemmas.Bool.{false≢true}
use Rattle.program_chains.specs.LogEvents.{as_trace_event}
use Rattle.log_order_check.proofs.ProgressFacts.{next_event, pass_load, pass_store, not_awaited, now_awaited}
use Rattle.log_order_check.proofs.progress.Progress.pass.Goals as goal

pub overflow_add-n : goal.overflow_add-n
overflow_add-n c = omega (arith, c.in-Some.ensures.within, c.args.tables.now.events.small)

pub returns-in_default : goal.returns-in_default
returns-in_default c = λ t order k tables passed at.
    absurd (c.in_default.ensures.none t tables.events (next_event t order c.args.tables.now.places.items tables.places k c.args.n at))

pub returns-then-event-2 : goal.returns-then-event-2
returns-then-event-2 c = λ t order k tables passed at.
    let places = c.args.tables.now.places.items in
    let e = as_trace_event c.in-Some.event in
    let at_n = c.in-Some.ensures.some t tables.events in
    let next : c.args.n + 1 ≡ suc c.args.n = omega arith in
    let most = c.max-self.ensures ∙ ap (λ m. max c.args.self.now.awaited m) (c.place.ensures ∙ ap (slice_index places) next) in
    pass_load t order places tables.places k c.args.n at c.args.self.now passed e at_n c.max-self.result c.if-event.true
    (now_awaited t order places tables.places k c.args.n at c.args.self.now passed e at_n c.max-self.result c.if-event.true c.if-event-2.true most)

pub returns-else-event-2 : goal.returns-else-event-2
returns-else-event-2 c = λ t order k tables passed at.
    let places = c.args.tables.now.places.items in
    let e = as_trace_event c.in-Some.event in
    let at_n = c.in-Some.ensures.some t tables.events in
    pass_load t order places tables.places k c.args.n at c.args.self.now passed e at_n c.args.self.now.awaited c.if-event.true
    (not_awaited t order places tables.places k c.args.n at c.args.self.now passed e at_n (λ swap. false≢true (sym c.if-event-2.false ∙ swap)))

pub returns-in_ok-insert : goal.returns-in_ok-insert
returns-in_ok-insert c = λ t order k tables passed at.
    let places = c.args.tables.now.places.items in
    let e = as_trace_event c.in-Some.event in
    let at_n = c.in-Some.ensures.some t tables.events in
    pass_store t order places tables.places k c.args.n at c.args.self.now passed e at_n (record { last = c.insert.new.self; awaited = c.args.self.now.awaited }) c.if-event.false refl
    (subst (λ m. Updates nat_eq c.args.self.now.last c.insert.new.self e.a (Some m)) c.place-else-event.ensures c.in_ok-insert.ensures.updates)

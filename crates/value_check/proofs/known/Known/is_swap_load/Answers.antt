use Rattle.std.proofs.Common.{sym, ◌∙◌, suc, IfNone}
use Rattle.std.proofs.lemmas.Bool.{false≢true}
use Rattle.tso_ops.specs.Values.{TraceValue}
use Rattle.tso_ops.specs.Events.{IsEvent, IsSwapLoad}
use Rattle.program_chains.specs.LogEvents.{AreEventsOf}
use Rattle.value_check.proofs.AnswerFacts.{refused_by, refuses}
use Rattle.value_check.proofs.EventFacts.{swap_load_of}
use Rattle.value_check.proofs.known.Known.is_swap_load.Goals as goal

pub returns-then-event : goal.returns-then-event
returns-then-event c = λ t are.
    let of = swap_load_of t (suc c.args.x) c.in-Some.event (c.in-Some.ensures.some t are) in
    (λ is. of.0 (c.if-event.true, is), λ swap. (of.1 swap).1)

pub returns-else-event : goal.returns-else-event
returns-else-event c = λ t are.
    let of = swap_load_of t (suc c.args.x) c.in-Some.event (c.in-Some.ensures.some t are) in
    refused_by c.in-Some.event.load (IsSwapLoad t (suc c.args.x)) c.if-event.false (λ swap. false≢true (sym c.if-event.false ∙ (of.1 swap).0))

pub returns-in-None : goal.returns-in-None
returns-in-None c = λ t are.
    let none : IfNone c.event.result ((u : TraceValue) → AreEventsOf u c.args.self.now.events.items → IsEvent u (suc c.args.x) → ⊥) = c.event.ensures.none in
    let is = rw c.in-None.is at none in
    refuses (λ swap. is t are (swap.0, swap.1))

use Rattle.std.proofs.Common.{suc, IfNone}
use Rattle.tso_ops.specs.Values.{TraceValue}
use Rattle.tso_ops.specs.Events.{IsEvent}
use Rattle.program_chains.specs.LogEvents.{AreEventsOf}
use Rattle.value_check.proofs.AnswerFacts.{refuses}
use Rattle.std.proofs.lemmas.Bool.{eq-eqb}
use borrow.Author.Tests.{eqb-true}
use Rattle.value_check.proofs.EventFacts.{one_address_of}
use Rattle.value_check.proofs.known.Known.is_one_address.Goals as goal

pub returns-in-Some-Some : goal.returns-in-Some-Some
returns-in-Some-Some c = λ t are.
    let first = c.in-Some-Some.first in
    let second = c.in-Some-Some.second in
    let of = one_address_of t (suc c.args.x) (suc c.args.y) first second (c.in-Some-Some.ensures.some t are) (c.in-Some-Some.ensures'.some t are) in
    (λ is. of.0 (eqb-true first.address second.address is), λ same. eq-eqb first.address second.address (of.1 same))

pub returns-in_default : goal.returns-in_default
returns-in_default c = λ t are. refuses (λ same. c.in_default.ensures'.none t are (same.1, same.3))

pub returns-in_default-2 : goal.returns-in_default-2
returns-in_default-2 c = λ t are.
    let none : IfNone c.event.result ((u : TraceValue) → AreEventsOf u c.args.self.now.events.items → IsEvent u (suc c.args.x) → ⊥) = c.event.ensures.none in
    let is = rw c.in_default.is-0 at none in
    refuses (λ same. is t are (same.0, same.2))

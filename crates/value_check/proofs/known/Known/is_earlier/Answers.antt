use Rattle.std.proofs.Common.{suc, IfNone}
use Rattle.tso_ops.specs.Values.{TraceValue}
use Rattle.tso_ops.specs.Events.{IsEvent}
use Rattle.program_chains.specs.LogEvents.{AreEventsOf}
use Rattle.value_check.proofs.AnswerFacts.{refuses}
use borrow.Author.Tests.{eqb-true, ltb-true, lt-ltb}
use Rattle.value_check.proofs.EventFacts.{earlier_of}
use Rattle.std.proofs.Common.{arith}
use Rattle.value_check.proofs.known.Known.is_earlier.Goals as goal

pub returns-then-first-second : goal.returns-then-first-second
returns-then-first-second c = λ t are.
    let of = earlier_of t (suc c.args.x) (suc c.args.y) c.in-Some-Some.first c.in-Some-Some.second (c.in-Some-Some.ensures.some t are) (c.in-Some-Some.ensures'.some t are) in (
      λ is. let less = ltb-true c.args.x c.args.y is in of.0 (c.if-first-second.true, omega arith),
      λ earlier. let less = (of.1 earlier).1 in lt-ltb c.args.x c.args.y (omega arith),
    )

pub returns-else-first-second : goal.returns-else-first-second
returns-else-first-second c = λ t are.
    let of = earlier_of t (suc c.args.x) (suc c.args.y) c.in-Some-Some.first c.in-Some-Some.second (c.in-Some-Some.ensures.some t are) (c.in-Some-Some.ensures'.some t are) in
    (λ is. absurd (c.if-first-second.false (eqb-true c.in-Some-Some.first.processor c.in-Some-Some.second.processor is)), λ earlier. absurd (c.if-first-second.false (of.1 earlier).0))

pub returns-in_default : goal.returns-in_default
returns-in_default c = λ t are. refuses (λ earlier. c.in_default.ensures'.none t are (earlier.1, earlier.3))

pub returns-in_default-2 : goal.returns-in_default-2
returns-in_default-2 c = λ t are.
    let none : IfNone c.event.result ((u : TraceValue) → AreEventsOf u c.args.self.now.events.items → IsEvent u (suc c.args.x) → ⊥) = c.event.ensures.none in
    let is = rw c.in_default.is-0 at none in
    refuses (λ earlier. is t are (earlier.0, earlier.2))

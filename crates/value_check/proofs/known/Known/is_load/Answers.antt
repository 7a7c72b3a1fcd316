use Rattle.std.proofs.Common.{suc, IfNone}
use Rattle.tso_ops.specs.Values.{TraceValue}
use Rattle.tso_ops.specs.Events.{IsEvent}
use Rattle.program_chains.specs.LogEvents.{AreEventsOf}
use Rattle.value_check.proofs.AnswerFacts.{refuses}
use Rattle.value_check.proofs.EventFacts.{load_of}
use Rattle.value_check.proofs.known.Known.is_load.Goals as goal

pub returns-in-Some : goal.returns-in-Some
returns-in-Some c = λ t are. load_of t (suc c.args.x) c.in-Some.event (c.in-Some.ensures.some t are)

pub returns-in-None : goal.returns-in-None
returns-in-None c = λ t are.
    let none : IfNone c.event.result ((u : TraceValue) → AreEventsOf u c.args.self.now.events.items → IsEvent u (suc c.args.x) → ⊥) = c.event.ensures.none in
    let is = rw c.in-None.is at none in
    refuses (λ load. is t are (load.0, load.1))

use Rattle.std.proofs.Common.{◌↔◌, IsTrue, sym, subst}
use Rattle.value_evidence.specs.declared.steps.ValueEnd.TheVariants.{Cycle}
use Rattle.value_evidence.specs.Refutations.{EndHoldsBeside}
use Rattle.value_check.proofs.AnswerFacts.{no_index, refuses}
use Rattle.value_check.proofs.SettlingFacts.{path_events}
use Rattle.value_check.proofs.known.Known.is_on_cycle.Goals as goal

pub returns-in-Some : goal.returns-in-Some
returns-in-Some c = λ aside t steps known.
    let x = c.in-Some.x in
    subst (λ n. IsTrue c.leads.result ↔ EndHoldsBeside t steps aside (Cycle n)) (sym c.in-Some.ensures.0)
    (λ true. (known.leads x x).0 (c.leads.ensures.0 true), λ path. c.leads.ensures.1 ((known.leads x x).1 path))

pub returns-in-None : goal.returns-in-None
returns-in-None c = λ aside t steps known.
    refuses (λ path. no_index t c.args.self.now known.tables c.args.event c.in-None.ensures (path_events t steps known.events c.args.event c.args.event path).0)

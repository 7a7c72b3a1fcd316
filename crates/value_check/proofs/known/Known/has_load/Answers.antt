use Rattle.std.proofs.Common.{◌↔◌, IsTrue, sym, subst}
use Rattle.tso_ops.specs.Events.{IsLoad}
use Rattle.tso_ops.proofs.NumberFacts.{load_event}
use Rattle.value_check.proofs.AnswerFacts.{no_index, refuses}
use Rattle.value_check.proofs.known.Known.has_load.Goals as goal

pub returns-in-None : goal.returns-in-None
returns-in-None c = λ t steps known. refuses (λ load. no_index t c.args.self.now known.tables c.args.number c.in-None.ensures (load_event t c.args.number load))

pub returns-in-Some : goal.returns-in-Some
returns-in-Some c = λ t steps known.
    subst (λ n. IsTrue c.is_load.result ↔ IsLoad t n) (sym c.in-Some.ensures.0) (c.is_load.ensures t known.tables.events)

use Rattle.std.proofs.lemmas.Bool.{false≢true}
use Rattle.tso_ops.proofs.NumberFacts.{not_from_init}
use Rattle.tso_ops.proofs.traces.Trace.is_unwritten.Goals as goal

pub returns-in-Some-Init : goal.returns-in-Some-Init
returns-in-Some-Init c =
    (λ e. absurd (false≢true e), λ unwritten. absurd (not_from_init c.args.self.now c.args.l c.in-Some-Init.field-0 c.in-Some-Init.field-0-is c.in-Some-Init.ensures.read unwritten))

use Rattle.std.proofs.Common.{◌∙◌, sym}
use Rattle.std.proofs.lemmas.Bool.{false≢true}
use Rattle.trace_judging.proofs.violations.try_written.Goals as goal

pub returns-then-is_shown_acyclic-clause-cycle : goal.returns-then-is_shown_acyclic-clause-cycle
returns-then-is_shown_acyclic-clause-cycle g c = (
  λ is. absurd (false≢true (sym c.without_rounds.ensures ∙ is)),
  λ cycle. absurd (c.is_shown_acyclic.ensures c.if-is_shown_acyclic.true cycle),
)

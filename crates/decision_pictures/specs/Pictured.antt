-- The picture of a trace as a rendering of a decision on it.
use Rattle.std.specs.Prelude.{ℕ, List}
use Rattle.tso_ops.specs.Values.{TraceValue}
use Rattle.trace_decisions.specs.declared.decisions.Decision.{Decision}
use Rattle.trace_decisions.specs.declared.decisions.Decision.TheVariants.{Decided, Undecided}
use Rattle.decision_pictures.specs.Pictures.{evidence_picture, undecided_picture}

-- by its evidence, or with none
abbrev pub decision_pictured : TraceValue → Decision → List ℕ
decision_pictured t (Decided e) = evidence_picture t e
decision_pictured t (Undecided steps) = undecided_picture t

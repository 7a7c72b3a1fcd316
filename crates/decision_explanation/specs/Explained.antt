-- The explanation of a decision: its head, and what explains it.
use Rattle.std.specs.Prelude.{ℕ, List, ◌++◌}
use Rattle.tso_ops.specs.Values.{TraceValue}
use Rattle.trace_decisions.specs.declared.decisions.Decision.{Decision}
use Rattle.trace_decisions.specs.declared.decisions.Decision.TheVariants.{Decided, Undecided}
use Rattle.trace_decisions.specs.DecisionTexts.{decision_head}
use Rattle.decision_explanation.specs.Explanations.{evidence_explanation, undecided_explanation}

-- what explains it
abbrev pub explained_by : TraceValue → Decision → List ℕ
explained_by t (Decided e) = evidence_explanation t e
explained_by t (Undecided steps) = undecided_explanation steps

abbrev pub decision_explained : TraceValue → Decision → List ℕ
decision_explained t d = decision_head t d ++ explained_by t d

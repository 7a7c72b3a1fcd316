-- The text of an explanation of a decision: what follows its verdict.
use Rattle.std.specs.Prelude.{ℕ, List, [], ◌∷◌, Option, None, Some, codes}
use Rattle.std.specs.Fmt.{decimal}
use Rattle.tso_ops.specs.Values.{TraceValue}
use Rattle.tso_cert.specs.declared.steps.Certificate.{Certificate}
use Rattle.tso_cert.specs.declared.steps.Certificate.TheVariants.{Unwritten as UnwrittenLoad}
use Rattle.tso_evidence.specs.declared.refutations.RefutationLine.{RefutationLine}
use Rattle.tso_evidence.specs.declared.evidence.Evidence.{Evidence}
use Rattle.tso_evidence.specs.declared.evidence.Evidence.TheVariants.{Unwritten, Order, Refutation}
use Rattle.trace_explanation.specs.JoinedTexts.{joined}
use Rattle.trace_explanation.specs.Explanations.{explanation_text}
use Rattle.decision_explanation.specs.Cases.{cases_text}
use Rattle.decision_explanation.specs.Certificates.{certificate_of}
use Rattle.decision_explanation.specs.Orders.{order_text}

-- the explanation of a refutation: that of the certificate which it is, or else by its cases
abbrev pub explanation_or_cases : TraceValue → List RefutationLine → Option Certificate → List ℕ
explanation_or_cases t lines (Some certificate) = explanation_text t (Some certificate)
explanation_or_cases t lines None = cases_text t lines

abbrev pub refutation_explanation : TraceValue → List RefutationLine → List ℕ
refutation_explanation t lines = explanation_or_cases t lines (certificate_of [] lines)

-- the explanation by evidence
abbrev pub evidence_explanation : TraceValue → Evidence → List ℕ
evidence_explanation t (Unwritten n) = explanation_text t (Some (UnwrittenLoad n))
evidence_explanation t (Order order) = order_text t order
evidence_explanation t (Refutation lines) = refutation_explanation t lines

-- that the search ended after this many steps, and that this shows nothing
unfoldable pub undecided_explanation : ℕ → List ℕ
undecided_explanation steps = joined (
    codes "\nThe search ended after " ∷ decimal steps
    ∷ codes " steps, with neither a memory order of this trace nor a refutation.\nThat does not show whether there is a memory order. A greater --effort allows more steps.\n" ∷ [])

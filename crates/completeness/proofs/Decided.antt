-- Evidence decides whether a trace has an order of its model.
use Rattle.std.proofs.Common.{◌⊎◌, ◌↔◌, inl, inr}
use Rattle.tso_ops.specs.Values.{TraceValue}
use Rattle.tso_ops.specs.Limits.{IsTrace}
use Rattle.tso_ops.proofs.NumberFacts.{own_values}
use Rattle.tso_model.specs.Axioms.{IsConsistent}
use Rattle.tso_model.proofs.EdgesForward.{all_written}
use Rattle.refutation_check.proofs.TreeFacts.{not_consistent}
use Rattle.completeness.specs.Evidence.{HasUnwrittenLoad, HasRefutation}
use Rattle.completeness.proofs.StoreCases.{evidence}

-- an unwritten load or a refutation leaves no order
no_order : (t : TraceValue) → IsTrace t → HasUnwrittenLoad t ⊎ HasRefutation t → IsConsistent t → ⊥
no_order t trace (inl unwritten) consistent = all_written t consistent.0 consistent.1 unwritten.0 unwritten.1
no_order t trace (inr refuted) consistent = not_consistent t (own_values t trace) refuted.0 refuted.1 consistent

pub inconsistent_iff : (t : TraceValue) → IsTrace t → (IsConsistent t → ⊥) ↔ (HasUnwrittenLoad t ⊎ HasRefutation t)
inconsistent_iff t trace = (
  λ none. elim (evidence t) [
    | inl unwritten ↦ inl unwritten
    | inr (inl consistent) ↦ absurd (none consistent)
    | inr (inr refuted) ↦ inr refuted
  ],
  no_order t trace,
)

pub consistent_iff : (t : TraceValue) → IsTrace t → IsConsistent t ↔ (HasUnwrittenLoad t ⊎ HasRefutation t → ⊥)
consistent_iff t trace = (
  λ consistent shown. no_order t trace shown consistent,
  λ none. elim (evidence t) [
    | inl unwritten ↦ absurd (none (inl unwritten))
    | inr (inl consistent) ↦ consistent
    | inr (inr refuted) ↦ absurd (none (inr refuted))
  ],
)

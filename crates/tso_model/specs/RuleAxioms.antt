-- The axiom of each rule: the one, beside Order and Termination, by which its edges lead forwards. Where that is Value, it is asked of one load
-- alone, the one of which the rule speaks.
use Rattle.std.specs.Prelude.{⊤, ℕ, List}
use Rattle.tso_ops.specs.Values.{TraceValue}
use Rattle.tso_cert.specs.declared.rules.BaseRule.{BaseRule}
use Rattle.tso_cert.specs.declared.rules.BaseRule.TheVariants.{Init, LoadOp, StoreStore, Stbar, Membar, Read, Own}
use Rattle.tso_cert.specs.declared.rules.InferredRule.{InferredRule}
use Rattle.tso_cert.specs.declared.rules.InferredRule.TheVariants.{LoadPast, StorePast, SwapBefore, SwapAfter}
use Rattle.tso_model.specs.Axioms.{MeetsLoadOp, MeetsStoreStore, MeetsStbar, MeetsMembar, MeetsAtomicity, ReadsGreatest}

-- The order meets the axiom of the base rule, for an edge to v, given by load l where the rule is Own; that `init` comes before all needs none.
abbrev pub BaseAxiom : TraceValue → List ℕ → BaseRule → ℕ → ℕ → Type 0
BaseAxiom t order Init v l = ⊤
BaseAxiom t order LoadOp v l = MeetsLoadOp t order
BaseAxiom t order StoreStore v l = MeetsStoreStore t order
BaseAxiom t order Stbar v l = MeetsStbar t order
BaseAxiom t order Membar v l = MeetsMembar t order
BaseAxiom t order Read v l = ReadsGreatest t order v
BaseAxiom t order Own v l = ReadsGreatest t order l

-- The order meets the axiom of the inferred rule, for load l.
abbrev pub InferredAxiom : TraceValue → List ℕ → InferredRule → ℕ → Type 0
InferredAxiom t order LoadPast l = ReadsGreatest t order l
InferredAxiom t order StorePast l = ReadsGreatest t order l
InferredAxiom t order SwapBefore l = MeetsAtomicity t order
InferredAxiom t order SwapAfter l = MeetsAtomicity t order

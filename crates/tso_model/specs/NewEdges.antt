-- Inferred edges over a relation that stands for the paths, and what a round adds.
use Rattle.std.specs.Prelude.{ℕ}
use Rattle.tso_ops.specs.Values.{TraceValue}
use Rattle.tso_cert.specs.declared.rules.InferredRule.{InferredRule}
use Rattle.order_paths.specs.Paths.{Reaches}
use Rattle.tso_model.specs.Rules.{InferredBy}
use Rattle.tso_model.specs.Ranks.{IsInferred}

-- the rule gives the edge for load l, where the path that it needs is one of these
abbrev pub IsGivenBy : TraceValue → InferredRule → ℕ → (ℕ → ℕ → Type 0) → ℕ → ℕ → Type 0
IsGivenBy t rule l Path u v = (x : ℕ) × (y : ℕ) × InferredBy t rule l u v x y × Path x y

-- what a round adds to these edges: what an inferred rule gives by a path over them, and they have no path for
abbrev pub IsNew : TraceValue → (ℕ → ℕ → Type 0) → ℕ → ℕ → Type 0
IsNew t Edge u v = IsInferred t Edge u v × (Reaches Edge u v → ⊥)

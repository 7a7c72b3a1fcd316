-- Rows of edges: to which numbers edges lead from one number.
use Rattle.std.specs.Prelude.{◌≡◌, ◌⊎◌, ℕ, ◌<◌, ◌≤◌}
use Rattle.tso_ops.specs.Values.{TraceValue}
use Rattle.tso_cert.specs.declared.rules.BaseRule.{BaseRule}
use Rattle.tso_cert.specs.declared.rules.BaseRule.TheVariants.{LoadOp, StoreStore, Stbar, Membar}
use Rattle.tso_cert.specs.declared.rules.InferredRule.{InferredRule}
use Rattle.tso_cert.specs.declared.steps.Reason.{Reason}
use Rattle.tso_cert.specs.declared.steps.Reason.TheVariants.{Base, Inferred}
use Rattle.order_paths.specs.Paths.{Reaches, IsLeastPath}
use Rattle.tso_model.specs.Rules.{BasePair, InferredBy}
use Rattle.tso_model.specs.NewEdges.{IsGivenBy}
use Rattle.tso_model.specs.Certs.{IsFirstBase, inferred_index}

-- program order gives the edge
abbrev pub IsLater : TraceValue → ℕ → ℕ → Type 0
IsLater t u v = BasePair t LoadOp u v ⊎ BasePair t StoreStore u v ⊎ BasePair t Stbar u v ⊎ BasePair t Membar u v

-- Rule and load come first among those that give the edge by a path over these edges: the first rule, then the least load.
abbrev pub IsFirstGiven : TraceValue → (ℕ → ℕ → Type 0) → ℕ → ℕ → InferredRule → ℕ → Type 0
IsFirstGiven t Edge u v rule load = (other : InferredRule) (l x y : ℕ) → InferredBy t other l u v x y → Reaches Edge x y →
    (inferred_index rule < inferred_index other) ⊎ ((inferred_index rule ≡ inferred_index other) × (load ≤ l))

-- The reason is the justification of the edge, where the edges of lesser rank are these: the first base rule; where none gives the edge the
-- first inferred rule that does by a path over these edges, then the least load, then the least path.
abbrev pub IsJustifiedOver : TraceValue → (ℕ → ℕ → Type 0) → ℕ → ℕ → Reason → Type 0
IsJustifiedOver t Edge u v (Base rule) = IsFirstBase t u v rule
IsJustifiedOver t Edge u v (Inferred rule load path) =
    ((base : BaseRule) → BasePair t base u v → ⊥)
    × ((x : ℕ) × (y : ℕ) × InferredBy t rule load u v x y × IsLeastPath Edge x y path)
    × IsFirstGiven t Edge u v rule load

-- no rule gives the edge, by a path over these edges if it asks for one
abbrev pub IsUngiven : TraceValue → (ℕ → ℕ → Type 0) → ℕ → ℕ → Type 0
IsUngiven t Edge u v = ((rule : BaseRule) → BasePair t rule u v → ⊥) × ((rule : InferredRule) (l : ℕ) → IsGivenBy t rule l (Reaches Edge) u v → ⊥)

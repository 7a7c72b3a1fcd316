-- The edges that a reason uses.
use Rattle.std.specs.Prelude.{ℕ}
use Rattle.order_paths.specs.Neighbours.{AreNeighbours}
use Rattle.tso_cert.specs.declared.steps.Reason.{Reason}
use Rattle.tso_cert.specs.declared.steps.Reason.TheVariants.{Base, Inferred}

-- u and v are neighbours in the reason's path
abbrev pub AreUsedBy : Reason → ℕ → ℕ → Type 0
AreUsedBy (Base rule) u v = ⊥
AreUsedBy (Inferred rule load path) u v = AreNeighbours path u v

-- How the steps of a certificate are collected: from the edges of the last rank down, in each rank from the last edge to the first.
use Rattle.std.specs.Prelude.{◌≡◌, ◌⊎◌, ℕ, ◌<◌, ◌≤◌, Bool, IsTrue, List, [], ◌∷◌, ◌++◌, Some, length, get_or, slice_get}
use Rattle.order_paths.specs.Paths.{IsCycle}
use Rattle.order_graph.specs.Digraphs.{Digraph, IsEdge}
use Rattle.tso_ops.specs.Values.{TraceValue}
use Rattle.tso_cert.specs.declared.steps.Reason.{Reason}
use Rattle.tso_cert.specs.declared.steps.Reason.TheVariants.{Base, Inferred}
use Rattle.tso_cert.specs.declared.steps.CertStep.{CertStep}
use Rattle.tso_model.specs.Ranks.{RankSet, HasRank}
use Rattle.tso_model.specs.Certs.{IsStep, IsPathIn, IsJustified, IsListedBefore, AreUsed}
use Rattle.tso_model.specs.ReasonEdges.{AreUsedBy}
use Rattle.tso_rules.specs.Rows.{IsJustifiedOver}
use Rattle.round_pool.specs.declared.ranked.Edge.{Edge}
use Rattle.round_pool.specs.RankGraphs.{AddsEdges}
use Rattle.round_pool.specs.Rankings.{edge_from}

-- the numbers of the list lie below this one
abbrev pub AreNumbersBelow : ℕ → List ℕ → Type 0
AreNumbersBelow nodes path = (i : ℕ) → i < length path → get_or path i 0 < nodes

-- the numbers of the reason's path do
abbrev pub IsReasonBelow : ℕ → Reason → Type 0
IsReasonBelow nodes (Base rule) = Unit {0}
IsReasonBelow nodes (Inferred rule load path) = AreNumbersBelow nodes path

-- The step of the edge from u to v was added: its reason is the justification over these edges, and what it uses was marked.
pub record AddsStep (t : TraceValue) (Edge : ℕ → ℕ → Type 0) (u v : ℕ) (marks more : Digraph) (old new : List CertStep) : Type 0 where
  pub reason : Reason
  pub justified : IsJustifiedOver t Edge u v reason
  pub appended : new ≡ old ++ record { from = u; to = v; reason = reason } ∷ []
  pub marked : AddsEdges marks more (AreUsedBy reason)

-- Nothing was changed where the edge isn't marked; else its step was added.
abbrev pub CollectsEdge : TraceValue → (ℕ → ℕ → Type 0) → ℕ → ℕ → Digraph → Digraph → List CertStep → List CertStep → Type 0
CollectsEdge t Edge u v marks more old new =
    ((IsEdge marks u v → ⊥) × (more ≡ marks) × (new ≡ old)) ⊎ (IsEdge marks u v × AddsStep t Edge u v marks more old new)

-- A step listed: its edge is marked and done, its reason is the justification of its rank, and its path's edges are marked.
pub record IsCollected (t : TraceValue) (Marked Done : ℕ → ℕ → Type 0) (s : CertStep) : Type 0 where
  pub marked : Marked s.from s.to
  pub done : Done s.from s.to
  pub justified : (r : ℕ) × HasRank t s.from s.to r × IsJustified t r s.from s.to s.reason
  pub path : IsPathIn Marked s.reason

-- The steps listed are those of the marked edges that are done, in order; marked are the cycle's edges and what the justifications of the steps
-- use, and each marked edge is in each set of pairs that has all these.
pub record Collects (t : TraceValue) (k : ℕ) (cycle : List ℕ) (Marked Done : ℕ → ℕ → Type 0) (steps : List CertStep) : Type 0 where
  pub cycle_marked : IsCycle Marked cycle
  pub edges : (u v : ℕ) → Marked u v → RankSet t k u v
  pub all : (u v : ℕ) → Marked u v → Done u v → IsStep steps u v
  pub each : (i : ℕ) (s : CertStep) → slice_get steps i ≡ Some s → IsCollected t Marked Done s
  pub order : (i j : ℕ) (s d : CertStep) (r q : ℕ) → i < j → slice_get steps i ≡ Some s → slice_get steps j ≡ Some d →
      HasRank t s.from s.to r → HasRank t d.from d.to q → IsListedBefore r s q d
  pub needed : (u v : ℕ) → Marked u v → (pairs : ℕ → ℕ → Bool) → AreUsed steps cycle pairs → IsTrue (pairs u v)

-- the edge has a rank above this one
abbrev pub IsAboveRank : TraceValue → ℕ → ℕ → ℕ → Type 0
IsAboveRank t r u v = (q : ℕ) × HasRank t u v q × (r < q)

-- the edge stands in the list, from this place on
abbrev pub IsListedFrom : List Edge → ℕ → ℕ → ℕ → Type 0
IsListedFrom edges first u v = (j : ℕ) × (first ≤ j) × (j < length edges) × (get_or edges j (edge_from u v) ≡ edge_from u v)

-- the edge has a rank above, or stands in the list of its rank from this place on
abbrev pub IsAboveOrListed : TraceValue → ℕ → List Edge → ℕ → ℕ → ℕ → Type 0
IsAboveOrListed t r edges first u v = IsAboveRank t r u v ⊎ IsListedFrom edges first u v

-- the pair from u to v stands from the pair from x to y on
abbrev pub IsFrom : ℕ → ℕ → ℕ → ℕ → Type 0
IsFrom x y u v = (x ≤ u) × (x ≡ u → y ≤ v)

-- the edge has a rank above 0, or is a base edge that stands from this pair on
abbrev pub IsAboveOrBase : TraceValue → ℕ → ℕ → ℕ → ℕ → Type 0
IsAboveOrBase t x y u v = IsAboveRank t 0 u v ⊎ (RankSet t 0 u v × IsFrom x y u v)

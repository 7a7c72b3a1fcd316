-- Which certificates hold for a trace, so that it has no order of its model, and which one certificate is the trace's own.
use Rattle.std.specs.Prelude.{◌≡◌, ◌⊎◌, ℕ, zero, suc, ◌<◌, ◌≤◌, Bool, IsTrue, List, Some, slice_get, take}
use Rattle.tso_ops.specs.Values.{TraceValue}
use Rattle.tso_ops.specs.Events.{IsUnwritten}
use Rattle.tso_cert.specs.declared.rules.BaseRule.{BaseRule}
use Rattle.tso_cert.specs.declared.rules.BaseRule.TheVariants.{Init, LoadOp, StoreStore, Stbar, Membar, Read, Own}
use Rattle.tso_cert.specs.declared.rules.InferredRule.{InferredRule}
use Rattle.tso_cert.specs.declared.rules.InferredRule.TheVariants.{LoadPast, StorePast, SwapBefore, SwapAfter}
use Rattle.tso_cert.specs.declared.steps.Reason.{Reason}
use Rattle.tso_cert.specs.declared.steps.Reason.TheVariants.{Base, Inferred}
use Rattle.tso_cert.specs.declared.steps.CertStep.{CertStep}
use Rattle.tso_cert.specs.declared.steps.Certificate.{Certificate}
use Rattle.tso_cert.specs.declared.steps.Certificate.TheVariants.{Unwritten, Cycle}
use Rattle.order_paths.specs.Paths.{HasEnds, Linked, IsCycle, IsLeastPath, IsLeastCycle, Reaches}
use Rattle.tso_model.specs.Rules.{BasePair, InferredBy}
use Rattle.tso_model.specs.Ranks.{RankSet, HasRank, IsRounds}

-- one of the steps is the edge from u to v
abbrev pub IsStep : List CertStep → ℕ → ℕ → Type 0
IsStep steps u v = (k : ℕ) × (s : CertStep) × (slice_get steps k ≡ Some s) × (s.from ≡ u) × (s.to ≡ v)

-- the edge meets the condition of the stated rule, and the stated path has the ends that the rule asks for
abbrev pub MeetsRule : TraceValue → ℕ → ℕ → Reason → Type 0
MeetsRule t u v (Base rule) = BasePair t rule u v
MeetsRule t u v (Inferred rule load path) = (x : ℕ) × (y : ℕ) × InferredBy t rule load u v x y × HasEnds path x y

-- the neighbours of the reason's path, if it has one, are edges
abbrev pub IsPathIn : (ℕ → ℕ → Type 0) → Reason → Type 0
IsPathIn Edge (Base rule) = Unit {0}
IsPathIn Edge (Inferred rule load path) = Linked Edge path

-- Step k meets its rule, by a path over the earlier steps.
abbrev pub StepHolds : TraceValue → List CertStep → ℕ → Type 0
StepHolds t steps k = (s : CertStep) → slice_get steps k ≡ Some s →
    MeetsRule t s.from s.to s.reason × IsPathIn (λ x y. IsStep (take k steps) x y) s.reason

-- each step does
abbrev pub StepsHold : TraceValue → List CertStep → Type 0
StepsHold t steps = (k : ℕ) → StepHolds t steps k

-- The certificate holds for the trace: it names a load that is unwritten; or each of its steps holds, and its cycle, which isn't empty, is one
-- of their edges.
abbrev pub Holds : TraceValue → Certificate → Type 0
Holds t (Unwritten n) = IsUnwritten t n
Holds t (Cycle steps cycle) = StepsHold t steps × IsCycle (λ x y. IsStep steps x y) cycle

-- the positions of the rules in the order in which a justification tries them
abbrev pub base_index : BaseRule → ℕ
base_index Init = 0
base_index LoadOp = 1
base_index StoreStore = 2
base_index Stbar = 3
base_index Membar = 4
base_index Read = 5
base_index Own = 6

abbrev pub inferred_index : InferredRule → ℕ
inferred_index LoadPast = 0
inferred_index StorePast = 1
inferred_index SwapBefore = 2
inferred_index SwapAfter = 3

-- the first base rule that gives the edge
abbrev pub IsFirstBase : TraceValue → ℕ → ℕ → BaseRule → Type 0
IsFirstBase t u v rule = BasePair t rule u v × ((other : BaseRule) → BasePair t other u v → base_index rule ≤ base_index other)

-- The reason is the justification of an edge of this rank.
abbrev pub IsJustified : TraceValue → ℕ → ℕ → ℕ → Reason → Type 0
-- of rank 0: the first base rule that gives it
IsJustified t zero u v (Base rule) = IsFirstBase t u v rule
IsJustified t zero u v (Inferred rule load path) = ⊥
IsJustified t (suc r) u v (Base rule) = ⊥
-- of a rank above: the first inferred rule that gives it by a path over the edges of lesser rank, then the least load, then the least path
IsJustified t (suc r) u v (Inferred rule load path) =
    ((x : ℕ) × (y : ℕ) × InferredBy t rule load u v x y × IsLeastPath (RankSet t r) x y path)
    × ((other : InferredRule) (l x y : ℕ) → InferredBy t other l u v x y → Reaches (RankSet t r) x y →
    (inferred_index rule < inferred_index other) ⊎ ((inferred_index rule ≡ inferred_index other) × (load ≤ l)))

-- step s, of rank r, is listed before step d, of rank q: by rank, then by first number, then by second
abbrev pub IsListedBefore : ℕ → CertStep → ℕ → CertStep → Type 0
IsListedBefore r s q d = (r < q) ⊎ ((r ≡ q) × ((s.from < d.from) ⊎ ((s.from ≡ d.from) × (s.to < d.to))))

-- The pairs have the cycle's edges and, with the edge of a step, the edges that its justification uses.
pub record AreUsed (steps : List CertStep) (cycle : List ℕ) (pairs : ℕ → ℕ → Bool) : Type 0 where
  pub cycle_edges : IsCycle (λ x y. IsTrue (pairs x y)) cycle
  pub path_edges : (k : ℕ) (s : CertStep) → slice_get steps k ≡ Some s → IsTrue (pairs s.from s.to) → IsPathIn (λ x y. IsTrue (pairs x y)) s.reason

-- The steps are the cycle's edges and all edges that their justifications use in turn, in their order, and no others: they are in each set of
-- pairs that has the cycle's edges and what the justifications of its edges use.
pub record AreStepsOf (t : TraceValue) (steps : List CertStep) (cycle : List ℕ) : Type 0 where
  pub justified : (k : ℕ) (s : CertStep) → slice_get steps k ≡ Some s → (r : ℕ) × HasRank t s.from s.to r × IsJustified t r s.from s.to s.reason
  pub in_order : (j k : ℕ) (s d : CertStep) (r q : ℕ) → j < k → slice_get steps j ≡ Some s → slice_get steps k ≡ Some d →
      HasRank t s.from s.to r → HasRank t d.from d.to q → IsListedBefore r s q d
  pub cycle_listed : IsCycle (λ x y. IsStep steps x y) cycle
  pub paths_listed : (k : ℕ) (s : CertStep) → slice_get steps k ≡ Some s → IsPathIn (λ x y. IsStep steps x y) s.reason
  pub needed : (k : ℕ) (s : CertStep) → slice_get steps k ≡ Some s → (pairs : ℕ → ℕ → Bool) → AreUsed steps cycle pairs → IsTrue (pairs s.from s.to)

-- The certificate of the trace: its least unwritten load, or, where no load is unwritten, the least cycle of the rank set of the rounds number with
-- its steps. The laws say that a trace has at most one, and has one exactly if a load is unwritten or the derived order has a cycle.
abbrev pub IsCertificateOf : TraceValue → Certificate → Type 0
IsCertificateOf t (Unwritten n) = IsUnwritten t n × ((other : ℕ) → IsUnwritten t other → n ≤ other)
IsCertificateOf t (Cycle steps cycle) = ((l : ℕ) → IsUnwritten t l → ⊥) × ((k : ℕ) × IsRounds t k × IsLeastCycle (RankSet t k) cycle) × AreStepsOf t steps cycle

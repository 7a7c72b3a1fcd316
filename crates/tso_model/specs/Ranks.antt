-- The rank sets, which rounds of the inferred rules build up from the base pairs, and the number of rounds that are made.
use Rattle.std.specs.Prelude.{◌≡◌, ◌⊎◌, ℕ, zero, suc, ◌<◌}
use Rattle.tso_ops.specs.Values.{TraceValue}
use Rattle.tso_ops.specs.Events.{IsUnwritten}
use Rattle.tso_cert.specs.declared.rules.BaseRule.{BaseRule}
use Rattle.tso_cert.specs.declared.rules.InferredRule.{InferredRule}
use Rattle.order_paths.specs.Paths.{Reaches, HasCycle}
use Rattle.tso_model.specs.Rules.{BasePair, InferredBy}

-- an inferred rule gives the edge by a path over these edges
abbrev pub IsInferred : TraceValue → (ℕ → ℕ → Type 0) → ℕ → ℕ → Type 0
IsInferred t Edge u v = (rule : InferredRule) × (l : ℕ) × (x : ℕ) × (y : ℕ) × InferredBy t rule l u v x y × Reaches Edge x y

-- The edges of rank k or less: at first the base pairs. Each round looks at the edges that stood before it alone, and adds the pairs that an
-- inferred rule gives by a path over these, unless a path already leads from the first to the second.
abbrev pub RankSet : TraceValue → ℕ → ℕ → ℕ → Type 0
RankSet t zero u v = (rule : BaseRule) × BasePair t rule u v
RankSet t (suc k) u v = RankSet t k u v ⊎ (IsInferred t (λ x y. RankSet t k x y) u v × (Reaches (λ x y. RankSet t k x y) u v → ⊥))

-- The rank of an edge is the first k whose rank set has it.
abbrev pub HasRank : TraceValue → ℕ → ℕ → ℕ → Type 0
HasRank t u v k = RankSet t k u v × ((j : ℕ) → j < k → RankSet t j u v → ⊥)

-- rank set k is a last one: the next round adds nothing
abbrev pub IsLast : TraceValue → ℕ → Type 0
IsLast t k = (u v : ℕ) → RankSet t (suc k) u v → RankSet t k u v

-- k is the first rank set with a cycle
abbrev pub IsFirstCyclic : TraceValue → ℕ → Type 0
IsFirstCyclic t k = HasCycle (RankSet t k) × ((j : ℕ) → j < k → HasCycle (RankSet t j) → ⊥)

-- no rank set has a cycle, and k is the first whose next round adds nothing
abbrev pub IsFirstLast : TraceValue → ℕ → Type 0
IsFirstLast t k = ((j : ℕ) → HasCycle (RankSet t j) → ⊥) × IsLast t k × ((j : ℕ) → j < k → IsLast t j → ⊥)

-- The rounds number is 0 where a load is unwritten. Else it is the first k whose rank set has a cycle; where no rank set has one, the first k
-- whose next round adds nothing.
abbrev pub IsRounds : TraceValue → ℕ → Type 0
IsRounds t k = ((k ≡ 0) × ((l : ℕ) × IsUnwritten t l)) ⊎ (((l : ℕ) → IsUnwritten t l → ⊥) × (IsFirstCyclic t k ⊎ IsFirstLast t k))

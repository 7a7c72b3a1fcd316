-- Each edge of a rank set has a rank, and a justification of that rank.
use Rattle.std.proofs.Common.{◌≡◌, ◌⊎◌, ℕ, zero, suc, ◌<◌, ◌≤◌, List, inl, inr, refl, sym, subst, arith}
use Rattle.std.proofs.lemmas.Bool.{cases_eq, cases_lt, cases_order}
use Rattle.order_paths.proofs.Decisions.{Decision, Decision-both, IsFirst, IsFirst-unique, first_below, first_of_some}
use Rattle.order_paths.proofs.LeastExists.{least_path_exists}
use Rattle.tso_ops.specs.Values.{TraceValue}
use Rattle.tso_ops.specs.Events.{event_total}
use Rattle.tso_cert.specs.declared.rules.BaseRule.{BaseRule}
use Rattle.tso_cert.specs.declared.rules.InferredRule.{InferredRule}
use Rattle.tso_cert.specs.declared.steps.Reason.{Reason}
use Rattle.tso_cert.specs.declared.steps.Reason.TheVariants.{Base, Inferred}
use Rattle.tso_model.specs.Rules.{BasePair}
use Rattle.tso_model.specs.Ranks.{RankSet, HasRank}
use Rattle.tso_model.specs.Certs.{base_index, inferred_index, IsFirstBase, IsJustified}
use Rattle.tso_model.proofs.Bounds.{RankSet-within}
use Rattle.tso_model.proofs.Decided.{BasePair-decided, BaseRule-some, InferredRule-some, IsGivenFor, IsGivenBy, IsGivenFor-decided, IsGivenBy-decided, RankSet-decided, RankSet-paths_decided}

-- an edge has one rank
pub rank_unique : (t : TraceValue) (u v j k : ℕ) → HasRank t u v j → HasRank t u v k → j ≡ k
rank_unique t u v j k left right = IsFirst-unique (λ i. RankSet t i u v) j k left right

-- an edge of a rank set has a rank, which is no greater than the set's number
pub rank_exists : (t : TraceValue) (k u v : ℕ) → RankSet t k u v → (r : ℕ) × (r ≤ k) × HasRank t u v r
rank_exists t k u v edge = first_of_some (λ r. RankSet t r u v) (λ r. RankSet-decided t r u v) k edge

-- whether an edge has this rank is decided
pub HasRank-decided : (t : TraceValue) (u v r : ℕ) → Decision (HasRank t u v r)
HasRank-decided t u v r = elim (first_below (λ j. RankSet t j u v) (λ j. RankSet-decided t j u v) (suc r)) [
  | inl found ↦ elim (cases_eq found.0 r) [
    | inl same ↦ inl (subst (λ q. HasRank t u v q) same found.2)
    | inr other ↦ inr (λ rank. other (rank_unique t u v found.0 r found.2 rank))
  ]
  | inr none ↦ inr (λ rank. none r (omega arith) rank.0)
]

-- base rules with one place in their order are one
pub base_index_injective : (rule other : BaseRule) → base_index rule ≡ base_index other → rule ≡ other
base_index_injective rule other same = grind arith

-- inferred rules with one place in their order are one
pub inferred_index_injective : (rule other : InferredRule) → inferred_index rule ≡ inferred_index other → rule ≡ other
inferred_index_injective rule other same = grind arith

-- a base pair has a first base rule
first_base : (t : TraceValue) (u v : ℕ) → RankSet t 0 u v → (rule : BaseRule) × IsFirstBase t u v rule
first_base t u v edge = (first.2.0.0, (first.2.0.2, least))
  where
    At : ℕ → Type 0
    At n = (rule : BaseRule) × (base_index rule ≡ n) × BasePair t rule u v

    decide : (n : ℕ) → Decision (At n)
    decide n = elim (BaseRule-some (λ rule. (base_index rule ≡ n) × BasePair t rule u v)
        (λ rule. Decision-both (cases_eq (base_index rule) n) (BasePair-decided t rule u v))) [
          | inl p ↦ inl (p.0, p.1.0, p.1.1)
          | inr none ↦ inr (λ p. none (p.0, (p.1, p.2)))
        ]

    first : (k : ℕ) × (k ≤ base_index edge.0) × IsFirst At k
    first = first_of_some At decide (base_index edge.0) (edge.0, refl, edge.1)

    least : (other : BaseRule) → BasePair t other u v → base_index first.2.0.0 ≤ base_index other
    least other pair = elim (cases_lt (base_index other) first.0) [
      | inl less ↦ absurd (first.2.1 (base_index other) less (other, refl, pair))
      | inr most ↦ omega (arith, most, first.2.0.1)
    ]

-- an inferred rule, for a load, which is the first that gives the edge
record IsFirstInferred (t : TraceValue) (Edge : ℕ → ℕ → Type 0) (u v : ℕ) (rule : InferredRule) (load : ℕ) : Type 0 where
  given : IsGivenFor t Edge u v rule load
  first : (other : InferredRule) (l : ℕ) → IsGivenFor t Edge u v other l →
      (inferred_index rule < inferred_index other) ⊎ ((inferred_index rule ≡ inferred_index other) × (load ≤ l))

-- an edge that an inferred rule gives has a first rule and load
first_inferred : (t : TraceValue) (r u v : ℕ) (some : InferredRule) → IsGivenBy t (RankSet t r) u v some →
    (rule : InferredRule) × ((load : ℕ) × IsFirstInferred t (RankSet t r) u v rule load)
first_inferred t r u v some given = (rule, (load.0, record { given = load.2.0; first = first_choice }))
  where
    At : ℕ → Type 0
    At n = (rule : InferredRule) × (inferred_index rule ≡ n) × IsGivenBy t (RankSet t r) u v rule

    decide : (n : ℕ) → Decision (At n)
    decide n = elim (InferredRule-some (λ rule. (inferred_index rule ≡ n) × IsGivenBy t (RankSet t r) u v rule)
        (λ rule. Decision-both (cases_eq (inferred_index rule) n) (IsGivenBy-decided t (RankSet t r) (RankSet-paths_decided t r) u v rule))) [
          | inl p ↦ inl (p.0, p.1.0, p.1.1)
          | inr none ↦ inr (λ p. none (p.0, (p.1, p.2)))
        ]

    first : (k : ℕ) × (k ≤ inferred_index some) × IsFirst At k
    first = first_of_some At decide (inferred_index some) (some, refl, given)

    rule : InferredRule
    rule = first.2.0.0

    load : (l : ℕ) × (l ≤ first.2.0.2.0) × IsFirst (IsGivenFor t (RankSet t r) u v rule) l
    load = first_of_some (IsGivenFor t (RankSet t r) u v rule) (IsGivenFor-decided t (RankSet t r) (RankSet-paths_decided t r) u v rule) first.2.0.2.0 first.2.0.2.1

    least_load : (l : ℕ) → IsGivenFor t (RankSet t r) u v rule l → load.0 ≤ l
    least_load l here = elim (cases_lt l load.0) [ inl less ↦ absurd (load.2.1 l less here) | inr most ↦ most ]

    first_choice : (other : InferredRule) (l : ℕ) → IsGivenFor t (RankSet t r) u v other l →
        (inferred_index rule < inferred_index other) ⊎ ((inferred_index rule ≡ inferred_index other) × (load.0 ≤ l))
    first_choice other l here = elim (cases_order (inferred_index rule) (inferred_index other)) [
      | inl same ↦ inr (same, least_load l (subst (λ q. IsGivenFor t (RankSet t r) u v q l) (sym (inferred_index_injective rule other same)) here))
      | inr (inl less) ↦ inl less
      | inr (inr more) ↦ absurd (first.2.1 (inferred_index other) (omega (arith, more, first.2.0.1)) (other, refl, (l, here)))
    ]

-- with the least path it is the justification of an edge of the next rank
inferred_justified : (t : TraceValue) (r u v : ℕ) (rule : InferredRule) (load : ℕ) → IsFirstInferred t (RankSet t r) u v rule load →
    (path : List ℕ) × IsJustified t (suc r) u v (Inferred rule load path)
inferred_justified t r u v rule load first =
    let given = first.given in
    let least = least_path_exists (RankSet t r) (suc (event_total t)) (RankSet-decided t r) (RankSet-within t r) given.0 given.1 given.3 in
    (least.0, ((given.0, given.1, given.2, least.1), λ other l x y by reaches. first.first other l (x, y, by, reaches)))

-- An edge of a rank has a justification.
pub justification_exists : (t : TraceValue) (r u v : ℕ) → HasRank t u v r → (reason : Reason) × IsJustified t r u v reason
justification_exists t zero u v rank = let first = first_base t u v rank.0 in (Base first.0, first.1)
justification_exists t (suc r) u v (inl edge, none) = absurd (none r (omega arith) edge)
justification_exists t (suc r) u v (inr added, none) =
    let inferred = added.0 in
    let first = first_inferred t r u v inferred.0 (inferred.1, (inferred.2, inferred.3, inferred.4, inferred.5)) in
    let just = inferred_justified t r u v first.0 first.1.0 first.1.1 in
    (Inferred first.0 first.1.0 just.0, just.1)

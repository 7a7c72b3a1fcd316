-- Each trace has an unwritten load, an order of its model, or a refutation each case of which is of two stores to one address.
use Rattle.std.proofs.Common.{◌⊎◌, inl, inr, refl, ℕ, suc, ◌<◌, Bool, IsTrue, List, [], ◌∷◌, ◌++◌, arith}
use Rattle.std.specs.List.{All}
use Rattle.std.proofs.lemmas.Bool.{cases_eq}
use Rattle.std.proofs.lemmas.List.Elements.{All-append, All-cons, All-nil}
use Rattle.order_paths.specs.Paths.{Reaches, HasCycle}
use Rattle.order_paths.proofs.Decisions.{Decision, Decision-four, Decision-IsTrue, Decision-not}
use Rattle.order_paths.proofs.Reach.{Reaches-below, Reaches-decided, Reaches-join, HasCycle-Reaches, HasCycle-decided}
use Rattle.tso_ops.specs.Values.{TraceValue}
use Rattle.tso_ops.specs.Events.{event_total, IsUnwritten}
use Rattle.tso_ops.proofs.NumberFacts.{store_event, IsStore-within}
use Rattle.tso_cert.specs.declared.rules.BaseRule.TheVariants.{Init}
use Rattle.tso_cert.specs.declared.steps.CertStep.{CertStep}
use Rattle.tso_cert.specs.declared.steps.Reason.{Reason}
use Rattle.tso_cert.specs.declared.steps.Reason.TheVariants.{Base, Inferred}
use Rattle.tso_evidence.specs.declared.refutations.RefutationLine.TheVariants.{Step, Case, Else, Cycle}
use Rattle.tso_evidence.specs.Refutations.{Refutation, cycle, step, split, lines_of}
use Rattle.tso_model.specs.Axioms.{IsMemoryOrder, IsConsistent}
use Rattle.tso_model.specs.Certs.{MeetsRule, IsPathIn}
use Rattle.tso_model.specs.Ranks.{IsInferred, RankSet}
use Rattle.tso_model.proofs.Bounds.{InferredBy-within, RankSet-within}
use Rattle.tso_model.proofs.Decided.{IsInferred-decided, IsStore-decided, RankSet-decided, SameAddress-decided, unwritten_decided}
use Rattle.completeness.specs.ClosedOrders.{IsClosedOrder, Respects}
use Rattle.completeness.proofs.ClosedOrderFacts.{order_of_closed}
use Rattle.refutation_check.specs.Refutations.{NoPair, WithPair, HoldsUnder}
use Rattle.completeness.specs.EventOrders.{HasEventsAlone}
use Rattle.completeness.specs.Evidence.{HasUnwrittenLoad, HasRefutation, AreStoresToOneAddress, IsOfStores, HasRefutationByStores}
use Rattle.completeness.proofs.BoundedSearch.{all_pairs_or}
use Rattle.completeness.proofs.LinearExtensions.{linear_extension}
use Rattle.completeness.proofs.MorePairs.{AreDecidedBelow, answer_by_more}
use Rattle.completeness.proofs.SwapOrders.{IsClosedOnAddresses, goal_of_closed_on_addresses}

-- ---- closed orders

-- some memory order respects a closed order of events and `init` that is decided
pub order_of_decided : (t : TraceValue) (Before : ℕ → ℕ → Type 0) → ((u v : ℕ) → Decision (Before u v)) → IsClosedOrder t Before →
    HasEventsAlone t Before → (order : List ℕ) × IsMemoryOrder t order × Respects order Before
order_of_decided t Before decide closed within =
    linear_extension Before decide closed.transitive closed.irreflexive t (λ n event. closed.base Init 0 n (refl, event)) within

pub order_of_test : (t : TraceValue) (before : ℕ → ℕ → Bool) → IsClosedOrder t (λ u v. IsTrue (before u v)) →
    HasEventsAlone t (λ u v. IsTrue (before u v)) → (order : List ℕ) × IsMemoryOrder t order × Respects order (λ u v. IsTrue (before u v))
order_of_test t before = order_of_decided t (λ u v. IsTrue (before u v)) (λ u v. Decision-IsTrue (before u v))

-- a trace with a closed order has an order of its model
consistent_of_closed : (t : TraceValue) → ((l : ℕ) → IsUnwritten t l → ⊥) → (Pair : ℕ → ℕ → Type 0) → AreDecidedBelow (suc (event_total t)) Pair →
    IsClosedOrder t (Reaches Pair) → IsConsistent t
consistent_of_closed t written Pair known closed =
    let paths = Reaches-decided Pair (suc (event_total t)) known.decide known.below in
    let found = order_of_decided t (Reaches Pair) paths closed (λ u v path.
    let within = Reaches-below Pair (suc (event_total t)) known.below u v path in (omega (arith, within.0), omega (arith, within.1))) in
    (found.0, order_of_closed t (Reaches Pair) closed found.0 found.2 written found.1)

-- ---- the cases

AreStoresToOneAddress-decided : (t : TraceValue) (u v : ℕ) → Decision (AreStoresToOneAddress t u v)
AreStoresToOneAddress-decided t u v = Decision-four (IsStore-decided t u) (IsStore-decided t v) (SameAddress-decided t u v) (Decision-not (cases_eq u v))

-- some refutation, each case of which is of two stores to one address, holds where these pairs are in force
abbrev HasRefutationUnder : TraceValue → (ℕ → ℕ → Type 0) → Type 0
HasRefutationUnder t Pair = (r : Refutation) × HoldsUnder t Pair r × All (IsOfStores t) (lines_of r)

-- the trace has an order of its model, or such a refutation
abbrev IsAnswered : TraceValue → (ℕ → ℕ → Type 0) → Type 0
IsAnswered t Pair = IsConsistent t ⊎ HasRefutationUnder t Pair

-- what is so with the pair of a step is so
by_step : (t : TraceValue) (Pair : ℕ → ℕ → Type 0) (u v : ℕ) (reason : Reason) → MeetsRule t u v reason → IsPathIn Pair reason → IsAnswered t (WithPair Pair u v) → IsAnswered t Pair
by_step t Pair u v reason meets path (inl consistent) = inl consistent
by_step t Pair u v reason meets path (inr (rest, holds, stores)) =
    let s : CertStep = record { from = u; to = v; reason = reason } in
    inr (step s rest, ((meets, path), holds), All-cons (IsOfStores t) (Step s) (lines_of rest) tt stores)

-- and what is so with either order of two stores to one address
by_case : (t : TraceValue) (Pair : ℕ → ℕ → Type 0) (u v : ℕ) → AreStoresToOneAddress t u v → IsAnswered t (WithPair Pair u v) → IsAnswered t (WithPair Pair v u) → IsAnswered t Pair
by_case t Pair u v two (inl consistent) second = inl consistent
by_case t Pair u v two (inr first) (inl consistent) = inl consistent
by_case t Pair u v two (inr (first, holds, stores)) (inr (second, holds_too, stores_too)) = inr (
  split u v first second,
  ((store_event t u two.0, store_event t v two.1, two.3), holds, holds_too),
  All-cons (IsOfStores t) (Case u v) (lines_of first ++ Else v u ∷ lines_of second) two
      (All-append (IsOfStores t) (lines_of first) (Else v u ∷ lines_of second) stores (All-cons (IsOfStores t) (Else v u) (lines_of second) tt stores_too)),
)

-- The pairs in force close a cycle, or with another pair they have an answer, or their paths order the stores of each address, and no rule leads out of them.
module _ (t : TraceValue) (written : (l : ℕ) → IsUnwritten t l → ⊥) (Pair : ℕ → ℕ → Type 0) (known : AreDecidedBelow (suc (event_total t)) Pair)
    (more : (u v : ℕ) → u < suc (event_total t) → v < suc (event_total t) → (Reaches Pair u v → ⊥) → IsAnswered t (WithPair Pair u v)) where
  paths : (u v : ℕ) → Decision (Reaches Pair u v)
  paths = Reaches-decided Pair (suc (event_total t)) known.decide known.below

  base_or : ((u v : ℕ) → RankSet t 0 u v → Reaches Pair u v) ⊎ IsAnswered t Pair
  base_or = all_pairs_or (RankSet t 0) (Reaches Pair) (IsAnswered t Pair) (RankSet-decided t 0) each (suc (event_total t)) (RankSet-within t 0)
    where
      each : (u v : ℕ) → RankSet t 0 u v → Reaches Pair u v ⊎ IsAnswered t Pair
      each u v pair = elim (paths u v) [
        | inl path ↦ inl path
        | inr none ↦ (let within = RankSet-within t 0 u v pair in inr (by_step t Pair u v (Base pair.0) pair.1 tt (more u v within.0 within.1 none)))
      ]

  inferred_within : (u v : ℕ) → IsInferred t Pair u v → (u < suc (event_total t)) × (v < suc (event_total t))
  inferred_within u v given = let within = InferredBy-within t given.0 given.1 u v given.2 given.3 given.4 in (within.from, within.to)

  inferred_or : ((u v : ℕ) → IsInferred t Pair u v → Reaches Pair u v) ⊎ IsAnswered t Pair
  inferred_or = all_pairs_or (IsInferred t Pair) (Reaches Pair) (IsAnswered t Pair) (IsInferred-decided t Pair paths) each (suc (event_total t)) inferred_within
    where
      each : (u v : ℕ) → IsInferred t Pair u v → Reaches Pair u v ⊎ IsAnswered t Pair
      each u v (rule, l, x, y, by, path) = elim (paths u v) [
        | inl there ↦ inl there
        | inr none ↦ (
            let within = inferred_within u v (rule, l, x, y, by, path) in
            inr (by_step t Pair u v (Inferred rule l path.0) (x, y, by, path.1.0) path.1.1 (more u v within.0 within.1 none))
            )
      ]

  stores_or : ((u v : ℕ) → AreStoresToOneAddress t u v → Reaches Pair u v ⊎ Reaches Pair v u) ⊎ IsAnswered t Pair
  stores_or = all_pairs_or (AreStoresToOneAddress t) (λ u v. Reaches Pair u v ⊎ Reaches Pair v u) (IsAnswered t Pair) (AreStoresToOneAddress-decided t) each (suc (event_total t))
      (λ u v two. (IsStore-within t u two.0, IsStore-within t v two.1))
    where
      each : (u v : ℕ) → AreStoresToOneAddress t u v → (Reaches Pair u v ⊎ Reaches Pair v u) ⊎ IsAnswered t Pair
      each u v two = elim (paths u v) [
        | inl path ↦ inl (inl path)
        | inr none ↦ elim (paths v u) [
          | inl path ↦ inl (inr path)
          | inr none_back ↦ (
              let below_u = IsStore-within t u two.0 in
              let below_v = IsStore-within t v two.1 in
              inr (by_case t Pair u v two (more u v below_u below_v none) (more v u below_v below_u none_back))
              )
        ]
      ]

  closed_on_addresses : (HasCycle Pair → ⊥) → ((u v : ℕ) → RankSet t 0 u v → Reaches Pair u v) → ((u v : ℕ) → IsInferred t Pair u v → Reaches Pair u v) →
      ((u v : ℕ) → AreStoresToOneAddress t u v → Reaches Pair u v ⊎ Reaches Pair v u) → IsClosedOnAddresses t (Reaches Pair)
  closed_on_addresses none base inferred stores = record {
    transitive = Reaches-join Pair;
    irreflexive = λ u path. none (HasCycle-Reaches Pair u path);
    base = λ rule u v pair. base u v (rule, pair);
    inferred = λ rule l u v x y by path. inferred u v (rule, l, x, y, by, path);
    stores = λ u v store_u store_v address different. stores u v (store_u, store_v, address, different);
  }

  answered_by_more : IsAnswered t Pair
  answered_by_more = elim (HasCycle-decided Pair (suc (event_total t)) known.decide known.below) [
    | inl closed ↦ inr (cycle closed.0, closed.1, All-cons (IsOfStores t) (Cycle closed.0) [] tt (All-nil (IsOfStores t)))
    | inr none ↦ elim base_or [
      | inr answer ↦ answer
      | inl base ↦ elim inferred_or [
        | inr answer ↦ answer
        | inl inferred ↦ elim stores_or [
          | inr answer ↦ answer
          | inl stores ↦ inl (goal_of_closed_on_addresses t (IsConsistent t) (consistent_of_closed t written) Pair known (closed_on_addresses none base inferred stores))
        ]
      ]
    ]
  ]

-- each trace has evidence whose cases are of two stores to one address
pub evidence_by_stores : (t : TraceValue) → HasUnwrittenLoad t ⊎ IsConsistent t ⊎ HasRefutationByStores t
evidence_by_stores t = elim (unwritten_decided t) [
  | inl unwritten ↦ inl unwritten
  | inr written ↦ inr (elim (answered (λ l unwritten. written (l, unwritten))) [
    | inl consistent ↦ inl consistent
    | inr (r, holds, stores) ↦ inr (lines_of r, (r, refl, holds), stores)
  ])
]
  where
    answered : ((l : ℕ) → IsUnwritten t l → ⊥) → IsAnswered t NoPair
    answered written = answer_by_more (suc (event_total t)) (IsAnswered t) (answered_by_more t written) NoPair
        (record { decide = λ x y. inr (λ none. none); below = λ x y none. absurd none })

-- so each trace has evidence
pub evidence : (t : TraceValue) → HasUnwrittenLoad t ⊎ IsConsistent t ⊎ HasRefutation t
evidence t = elim (evidence_by_stores t) [
  | inl unwritten ↦ inl unwritten
  | inr (inl consistent) ↦ inr (inl consistent)
  | inr (inr refuted) ↦ inr (inr (refuted.0, refuted.1))
]

-- Orders that differ in loads of different processors alone meet the same axioms.
use Rattle.std.proofs.Common.{◌≡◌, ◌⊎◌, ℕ, suc, ◌<◌, ◌≤◌, Some, inl, inr, ⊎_elim, refl, sym, ap, arith, ◌∙◌}
use Rattle.std.proofs.lemmas.Bool.{cases_lt, cases_order}
use Rattle.order_paths.proofs.Decisions.{Decision, Decision-iff}
use Rattle.tso_ops.specs.declared.events.Event.{Event}
use Rattle.tso_ops.specs.Values.{TraceValue}
use Rattle.tso_ops.specs.Events.{event_at, IsEvent, IsLoad, IsStore, Earlier}
use Rattle.tso_ops.proofs.NumberFacts.{event_unique, load_event, store_event}
use Rattle.tso_ops.proofs.SwapFacts.{IsSwapLoad-store}
use Rattle.tso_model.proofs.Decided.{IsEvent-decided, Earlier-decided}
use Rattle.log_thinning.proofs.RankModels.{IsModelRank, Sees, ReadsLast}

-- both events are of one processor
abbrev pub OfOneProcessor : TraceValue → ℕ → ℕ → Type 0
OfOneProcessor t u v = (d : Event) × (e : Event) × (event_at t u ≡ Some d) × (event_at t v ≡ Some e) × (d.proc ≡ e.proc)

-- so are they the other way round
pub one_processor_back : (t : TraceValue) (u v : ℕ) → OfOneProcessor t u v → OfOneProcessor t v u
one_processor_back t u v (d, e, at_d, at_e, same) = (e, d, at_e, at_d, sym same)

-- and with a third
pub one_processor_chain : (t : TraceValue) (u v w : ℕ) → OfOneProcessor t u v → OfOneProcessor t v w → OfOneProcessor t u w
one_processor_chain t u v w (d, e, at_d, at_e, same) (e', f, at_e', at_f, same') =
    (d, f, at_d, at_f, same ∙ ap (λ (x : Event). x.proc) (event_unique t v e e' at_e at_e') ∙ same')

-- the one of the lower number is program-earlier
pub one_processor_earlier : (t : TraceValue) (u v : ℕ) → OfOneProcessor t u v → u < v → Earlier t u v
one_processor_earlier t u v (d, e, at_d, at_e, same) less = (d, e, at_d, at_e, same, less)

-- events in program order are of one processor
pub earlier_one_processor : (t : TraceValue) (u v : ℕ) → Earlier t u v → OfOneProcessor t u v
earlier_one_processor t u v (d, e, at_d, at_e, same, less) = (d, e, at_d, at_e, same)

-- that is decided
pub OfOneProcessor-decided : (t : TraceValue) (u v : ℕ) → Decision (OfOneProcessor t u v)
OfOneProcessor-decided t u v = elim (cases_order u v) [
  | inl same ↦ Decision-iff (λ p. (p.0, p.0, p.1, ap (event_at t) (sym same) ∙ p.1, refl)) (λ p. (p.0, p.2)) (IsEvent-decided t u)
  | inr (inl below) ↦ Decision-iff (λ p. earlier_one_processor t u v p) (λ p. one_processor_earlier t u v p below) (Earlier-decided t u v)
  | inr (inr above) ↦ Decision-iff (λ p. one_processor_back t v u (earlier_one_processor t v u p)) (λ p. one_processor_earlier t v u (one_processor_back t u v p) above) (Earlier-decided t v u)
]

-- Two events, the order of which an axiom may ask for: of one processor, or one is a store.
abbrev pub AreOrdered : TraceValue → ℕ → ℕ → Type 0
AreOrdered t u v = OfOneProcessor t u v ⊎ (IsStore t u ⊎ IsStore t v)

-- the order doesn't matter
ordered_back : (t : TraceValue) (u v : ℕ) → AreOrdered t u v → AreOrdered t v u
ordered_back t u v (inl own) = inl (one_processor_back t u v own)
ordered_back t u v (inr (inl store)) = inr (inr store)
ordered_back t u v (inr (inr store)) = inr (inl store)

module _ (t : TraceValue) (rank other : ℕ → ℕ) (right : IsModelRank t rank) (apart : (u v : ℕ) → IsEvent t u → IsEvent t v → other u ≡ other v → u ≡ v)
    (alike : (u v : ℕ) → IsEvent t u → IsEvent t v → AreOrdered t u v → rank u ≤ rank v → other u ≤ other v) where
  -- they stand in the one order as in the other
  alike_back : (u v : ℕ) → IsEvent t u → IsEvent t v → AreOrdered t u v → other u ≤ other v → rank u ≤ rank v
  alike_back u v event_u event_v ordered low = elim (cases_lt (rank v) (rank u)) [
    | inr up ↦ up
    | inl less ↦ absurd (
        let high = alike v u event_v event_u (ordered_back t u v ordered) (omega (arith, less)) in
        let one = apart u v event_u event_v (omega (arith, low, high)) in
        let same : rank u ≡ rank v = ap rank one in
        omega (arith, less, same)
        )
  ]

  -- events in program order stand alike
  own : (u v : ℕ) → Earlier t u v → rank u ≤ rank v → other u ≤ other v
  own u v earlier low = alike u v (earlier.0, earlier.2) (earlier.1, earlier.3) (inl (earlier_one_processor t u v earlier)) low

  -- a load sees the same stores
  sees_other : (s l : ℕ) → IsLoad t l → Sees t rank s l → Sees t other s l
  sees_other s l load (store, address, seen) =
      (store, address, ⊎_elim (λ low. inl (alike s l (store_event t s store) (load_event t l load) (inr (inl store)) low)) (λ earlier. inr earlier) seen)

  -- and no others
  sees_rank : (s l : ℕ) → IsLoad t l → Sees t other s l → Sees t rank s l
  sees_rank s l load (store, address, seen) =
      (store, address, ⊎_elim (λ low. inl (alike_back s l (store_event t s store) (load_event t l load) (inr (inl store)) low)) (λ earlier. inr earlier) seen)

  -- so it reads the same
  reads_alike : (l : ℕ) → IsLoad t l → ReadsLast t rank l → ReadsLast t other l
  reads_alike l load (inl (first, none)) = inl (first, λ s seen. none s (sees_rank s l load seen))
  reads_alike l load (inr (s, seen, value, last)) = inr (
    s,
    sees_other s l load seen,
    value,
    λ o o_seen. alike o s (store_event t o o_seen.0) (store_event t s seen.0) (inr (inl o_seen.0)) (last o (sees_rank o l load o_seen)),
  )

  -- the other order meets the axioms
  pub alike_order : IsModelRank t other
  alike_order = record {
    apart = apart;
    load_op = λ u v load earlier. own u v earlier (right.load_op u v load earlier);
    store_store = λ u v first second earlier keeps. own u v earlier (right.store_store u v first second earlier keeps);
    stbar = λ u v first second earlier fewer. own u v earlier (right.stbar u v first second earlier fewer);
    membar = λ u v store load earlier fewer. own u v earlier (right.membar u v store load earlier fewer);
    swap = λ l swap.
        let store = IsSwapLoad-store t l swap in
        alike l (suc l) (swap.0, swap.1) (store_event t (suc l) store) (inr (inr store)) (right.swap l swap);
    atomicity = λ l s swap store unlike.
        let swap_store = IsSwapLoad-store t l swap in
        ⊎_elim
        (λ low. inl (alike s l (store_event t s store) (swap.0, swap.1) (inr (inl store)) low))
        (λ high. inr (alike (suc l) s (store_event t (suc l) swap_store) (store_event t s store) (inr (inl swap_store)) high))
        (right.atomicity l s swap store unlike);
    value = λ l load. reads_alike l load (right.value l load);
  }

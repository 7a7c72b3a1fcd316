-- A trace that is another one without one event, but for barriers and a swap's half.
use Rattle.std.proofs.Common.{◌≡◌, ◌≢◌, ◌⊎◌, ℕ, suc, ◌≤◌, inl, inr, ⊎_elim, sym, subst, ◌∙◌}
use Rattle.std.proofs.lemmas.Bool.{cases_eq}
use Rattle.tso_ops.specs.Values.{TraceValue}
use Rattle.tso_ops.specs.Events.{IsEvent, IsLoad, IsStore, IsSwapLoad, HasFirstValue, SameAddress, SameValue, Earlier, HasFewerBarriersBefore, HasFewerStbarsBefore, KeepsStores}
use Rattle.tso_ops.proofs.NumberFacts.{load_event, store_event}
use Rattle.log_thinning.proofs.RankModels.{IsModelRank, Sees, ReadsLast}
use Rattle.log_thinning.proofs.Skips.{skip, skip-less, skip-less_back, skip-once, skip-back}
use Rattle.log_thinning.proofs.Twins.{IsTwin, twin_back, twin_event, twin_load, twin_store, twin_first, twin_address, twin_value, twin_earlier, twin_stbars, twin_keeps}

-- The trace t is the log without its event x. A swap of the trace is one of the log; the log may have one more, at x.
pub record IsWithout (log t : TraceValue) (x : ℕ) : Type 0 where
  pub setting : t.setting ≡ log.setting
  pub twin : (n : ℕ) → IsEvent t n → IsTwin t log n (skip x n)
  pub kept : (n : ℕ) → IsEvent log (skip x n) → IsEvent t n
  pub swap : (l : ℕ) → IsSwapLoad t l → IsSwapLoad log (skip x l) × (skip x (suc l) ≡ suc (skip x l))

module _ (log t : TraceValue) (x : ℕ) (without : IsWithout log t x) where
  -- an event of the log is like the trace's
  back : (n : ℕ) → IsEvent t n → IsTwin log t (skip x n) n
  back n event = twin_back t log n (skip x n) (without.twin n event)

  -- an event of the log is x or is in the trace too
  pub left_or_kept : (m : ℕ) → IsEvent log m → (m ≡ x) ⊎ ((n : ℕ) × (skip x n ≡ m) × IsEvent t n)
  left_or_kept m event = elim (cases_eq m x) [
    | inl same ↦ inl same
    | inr other ↦ (let found = skip-back x m other in inr (found.0, found.1, without.kept found.0 (subst (IsEvent log) (sym found.1) event)))
  ]

  -- what holds at x and at each event of the trace holds at each of the log
  pub at_each : (P : ℕ → Type 0) → P x → ((n : ℕ) → IsEvent t n → P (skip x n)) → (m : ℕ) → IsEvent log m → P m
  at_each P here there m event = elim (left_or_kept m event) [
    | inl same ↦ subst P (sym same) here
    | inr found ↦ subst P found.1 (there found.0 found.2)
  ]

  -- ---- what holds in the trace holds in the log

  -- events
  pub event_there : (n : ℕ) → IsEvent t n → IsEvent log (skip x n)
  event_there n event = twin_event t log n (skip x n) (without.twin n event)

  -- loads
  pub load_there : (n : ℕ) → IsLoad t n → IsLoad log (skip x n)
  load_there n load = twin_load t log n (skip x n) (without.twin n (load_event t n load)) load

  -- stores
  pub store_there : (n : ℕ) → IsStore t n → IsStore log (skip x n)
  store_there n store = twin_store t log n (skip x n) (without.twin n (store_event t n store)) store

  -- one address
  pub address_there : (u v : ℕ) → SameAddress t u v → SameAddress log (skip x u) (skip x v)
  address_there u v same = twin_address t log u v (skip x u) (skip x v) (without.twin u (same.0, same.2)) (without.twin v (same.1, same.3)) same

  -- one value
  pub value_there : (u v : ℕ) → SameValue t u v → SameValue log (skip x u) (skip x v)
  value_there u v same = twin_value t log u v (skip x u) (skip x v) (without.twin u (same.0, same.2)) (without.twin v (same.1, same.3)) same

  -- program order
  pub earlier_there : (u v : ℕ) → Earlier t u v → Earlier log (skip x u) (skip x v)
  earlier_there u v earlier =
      twin_earlier t log u v (skip x u) (skip x v) (without.twin u (earlier.0, earlier.2)) (without.twin v (earlier.1, earlier.3)) (skip-less x u v earlier.5) earlier

  -- STBARs
  pub stbars_there : (u v : ℕ) → HasFewerStbarsBefore t u v → HasFewerStbarsBefore log (skip x u) (skip x v)
  stbars_there u v fewer = twin_stbars t log u v (skip x u) (skip x v) (without.twin u (fewer.0, fewer.2)) (without.twin v (fewer.1, fewer.3)) fewer

  -- stores whose order the model keeps
  pub keeps_there : (u v : ℕ) → IsEvent t u → IsEvent t v → KeepsStores t u v → KeepsStores log (skip x u) (skip x v)
  keeps_there u v first second keeps = twin_keeps t log u v (skip x u) (skip x v) (without.twin u first) (without.twin v second) without.setting keeps

  -- ---- and the other way round

  -- loads
  pub load_here : (n : ℕ) → IsLoad log (skip x n) → IsLoad t n
  load_here n load = twin_load log t (skip x n) n (back n (without.kept n (load_event log (skip x n) load))) load

  -- stores
  pub store_here : (n : ℕ) → IsStore log (skip x n) → IsStore t n
  store_here n store = twin_store log t (skip x n) n (back n (without.kept n (store_event log (skip x n) store))) store

  -- first values
  pub first_here : (n : ℕ) → HasFirstValue log (skip x n) → HasFirstValue t n
  first_here n is = twin_first log t (skip x n) n (back n (without.kept n (is.0, is.1))) (sym without.setting) is

  -- also in the log
  pub first_there : (n : ℕ) → HasFirstValue t n → HasFirstValue log (skip x n)
  first_there n is = twin_first t log n (skip x n) (without.twin n (is.0, is.1)) without.setting is

  -- one address
  pub address_here : (u v : ℕ) → SameAddress log (skip x u) (skip x v) → SameAddress t u v
  address_here u v same =
      twin_address log t (skip x u) (skip x v) u v (back u (without.kept u (same.0, same.2))) (back v (without.kept v (same.1, same.3))) same

  -- one value
  pub value_here : (u v : ℕ) → SameValue log (skip x u) (skip x v) → SameValue t u v
  value_here u v same =
      twin_value log t (skip x u) (skip x v) u v (back u (without.kept u (same.0, same.2))) (back v (without.kept v (same.1, same.3))) same

  -- program order
  pub earlier_here : (u v : ℕ) → Earlier log (skip x u) (skip x v) → Earlier t u v
  earlier_here u v earlier =
      twin_earlier log t (skip x u) (skip x v) u v (back u (without.kept u (earlier.0, earlier.2))) (back v (without.kept v (earlier.1, earlier.3)))
      (skip-less_back x u v earlier.5) earlier

  -- STBARs
  pub stbars_here : (u v : ℕ) → HasFewerStbarsBefore log (skip x u) (skip x v) → HasFewerStbarsBefore t u v
  stbars_here u v fewer =
      twin_stbars log t (skip x u) (skip x v) u v (back u (without.kept u (fewer.0, fewer.2))) (back v (without.kept v (fewer.1, fewer.3))) fewer

  -- stores whose order the model keeps
  pub keeps_here : (u v : ℕ) → IsEvent t u → IsEvent t v → KeepsStores log (skip x u) (skip x v) → KeepsStores t u v
  keeps_here u v first second keeps = twin_keeps log t (skip x u) (skip x v) u v (back u first) (back v second) (sym without.setting) keeps

  -- ---- an order of the log is one of the trace

  module _ (rank : ℕ → ℕ) (right : IsModelRank log rank) where
    -- the rank of an event is that of the log's
    abbrev pub rank_there : ℕ → ℕ
    rank_there n = rank (skip x n)

    -- a load sees what it sees in the log
    pub sees_there : (s l : ℕ) → Sees t rank_there s l → Sees log rank (skip x s) (skip x l)
    sees_there s l (store, address, seen) =
        (store_there s store, address_there s l address, ⊎_elim (λ low. inl low) (λ earlier. inr (earlier_there s l earlier)) seen)

    -- and no more
    pub sees_here : (s l : ℕ) → Sees log rank (skip x s) (skip x l) → Sees t rank_there s l
    sees_here s l (store, address, seen) =
        (store_here s store, address_here s l address, ⊎_elim (λ low. inl low) (λ earlier. inr (earlier_here s l earlier)) seen)

    -- What a load read in the log it reads in the trace, where that is the last of the stores that are left and that the load sees.
    pub reads_kept : (l s : ℕ) → s ≢ x → Sees log rank s (skip x l) → SameValue log s (skip x l) →
        ((other : ℕ) → Sees t rank_there other l → rank (skip x other) ≤ rank s) → ReadsLast t rank_there l
    reads_kept l s other seen value last =
        let found = skip-back x s other in
        let is : s ≡ skip x found.0 = sym found.1 in
        inr (
          found.0,
          sees_here found.0 l (subst (λ n. Sees log rank n (skip x l)) is seen),
          value_here found.0 l (subst (λ n. SameValue log n (skip x l)) is value),
          subst (λ n. (o : ℕ) → Sees t rank_there o l → rank (skip x o) ≤ rank n) is last,
        )

    -- Each axiom but those of barriers and of values holds in the trace.
    pub order_without :
        ((u v : ℕ) → IsStore t u → IsLoad t v → Earlier t u v → HasFewerBarriersBefore t u v → rank (skip x u) ≤ rank (skip x v)) →
        ((l : ℕ) → IsLoad t l → ReadsLast t rank_there l) → IsModelRank t rank_there
    order_without membar value = record {
      apart = λ u v first second same. skip-once x u v (right.apart (skip x u) (skip x v) (event_there u first) (event_there v second) same);
      load_op = λ u v load earlier. right.load_op (skip x u) (skip x v) (load_there u load) (earlier_there u v earlier);
      store_store = λ u v first second earlier keeps.
          right.store_store (skip x u) (skip x v) (store_there u first) (store_there v second) (earlier_there u v earlier)
          (keeps_there u v (store_event t u first) (store_event t v second) keeps);
      stbar = λ u v first second earlier fewer.
          right.stbar (skip x u) (skip x v) (store_there u first) (store_there v second) (earlier_there u v earlier) (stbars_there u v fewer);
      membar = membar;
      swap = λ l swap.
          let there = without.swap l swap in subst (λ n. rank (skip x l) ≤ rank n) (sym there.1) (right.swap (skip x l) there.0);
      atomicity = λ l s swap store other.
          let there = without.swap l swap in
          let apart : skip x s ≢ suc (skip x l) = λ same. other (skip-once x s (suc l) (same ∙ sym there.1)) in
          subst (λ n. (rank (skip x s) ≤ rank (skip x l)) ⊎ (rank n ≤ rank (skip x s))) (sym there.1)
          (right.atomicity (skip x l) (skip x s) there.0 (store_there s store) apart);
      value = value;
    }

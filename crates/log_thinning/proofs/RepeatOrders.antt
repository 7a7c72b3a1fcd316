-- Orders of a log with and without a load that another load repeats or that repeats another.
use Rattle.std.proofs.Common.{◌≡◌, ◌⊎◌, ℕ, suc, ◌<◌, ◌≤◌, inl, inr, ⊎_elim, subst}
use Rattle.tso_ops.specs.Values.{TraceValue}
use Rattle.tso_ops.specs.Events.{IsLoad, IsStore, IsSwapLoad, SameAddress, SameValue, Earlier, HasFewerBarriersBefore}
use Rattle.tso_ops.proofs.NumberFacts.{load_event, store_event, load_is_no_store}
use Rattle.log_thinning.proofs.IdleForward.{address_chain, address_back, value_chain, first_chain}
use Rattle.log_thinning.proofs.Inserted.{inserted, CanInsert, order_with, up_there, up_here, before_there, before_here}
use Rattle.log_thinning.proofs.RankModels.{IsModelRank, Sees, ReadsLast}
use Rattle.log_thinning.proofs.Skips.{skip}
use Rattle.log_thinning.proofs.Without.{IsWithout, at_each, load_there, load_here, store_there, store_here, earlier_there, earlier_here, address_there, address_here, value_there, first_here, first_there, rank_there, sees_there, reads_kept, order_without}

-- The trace t is the log without its load l, which is no swap's, and has the log's barriers.
pub record IsDropped (log t : TraceValue) (l : ℕ) : Type 0 where
  pub without : IsWithout log t l
  pub load : IsLoad log l
  pub unswapped : IsSwapLoad log l → ⊥
  pub barriers_there : (u v : ℕ) → HasFewerBarriersBefore t u v → HasFewerBarriersBefore log (skip l u) (skip l v)
  pub barriers_here : (u v : ℕ) → HasFewerBarriersBefore log (skip l u) (skip l v) → HasFewerBarriersBefore t u v
  pub swap_here : (n : ℕ) → IsSwapLoad log (skip l n) → IsSwapLoad t n × (skip l (suc n) ≡ suc (skip l n))

-- The load l fits at the cut: there it sees what load k of the trace sees, which has its address and its value.
pub record FitsAt (log t : TraceValue) (l k : ℕ) (rank : ℕ → ℕ) (cut : ℕ) : Type 0 where
  pub kept : IsLoad t k
  pub address : SameAddress log (skip l k) l
  pub value : SameValue log (skip l k) l
  -- the events of its processor
  pub before : (n : ℕ) → IsLoad t n → Earlier log (skip l n) l → rank n < cut
  pub behind : (n : ℕ) → Earlier log l (skip l n) → cut ≤ rank n
  pub barrier : (n : ℕ) → IsStore t n → Earlier log (skip l n) l → HasFewerBarriersBefore log (skip l n) l → rank n < cut
  -- the stores to its address
  pub sees_kept : (s : ℕ) → IsStore t s → SameAddress log (skip l s) l → (rank s < cut) ⊎ Earlier log (skip l s) l → (rank s ≤ rank k) ⊎ Earlier t s k
  pub kept_sees : (s : ℕ) → IsStore t s → (rank s ≤ rank k) ⊎ Earlier t s k → (rank s < cut) ⊎ Earlier log (skip l s) l

module _ (log t : TraceValue) (l : ℕ) (is : IsDropped log t l) where
  -- an order of the log without the load is one of the trace
  pub dropped_forward : (rank : ℕ → ℕ) → IsModelRank log rank → (kept : ℕ → ℕ) × IsModelRank t kept
  dropped_forward rank right = (
    rank_there log t l is.without rank right,
    order_without log t l is.without rank right
        (λ u v store load earlier fewer.
        right.membar (skip l u) (skip l v) (store_there log t l is.without u store) (load_there log t l is.without v load) (earlier_there log t l is.without u v earlier)
        (is.barriers_there u v fewer))
        reads,
  )
    where
      reads : (n : ℕ) → IsLoad t n → ReadsLast t (rank_there log t l is.without rank right) n
      reads n load = elim (right.value (skip l n) (load_there log t l is.without n load)) [
        | inl none ↦ inl (first_here log t l is.without n none.0, λ s seen. none.1 (skip l s) (sees_there log t l is.without rank right s n seen))
        | inr last ↦ reads_kept log t l is.without rank right n last.0
            (λ same. load_is_no_store log l is.load (subst (IsStore log) same last.1.0)) last.1 last.2
            (λ o seen. last.3 (skip l o) (sees_there log t l is.without rank right o n seen))
      ]

  module _ (rank : ℕ → ℕ) (right : IsModelRank t rank) (k cut : ℕ) (fits : FitsAt log t l k rank cut) where
    -- so the load can stand at the cut
    can_insert : CanInsert log t l rank cut
    can_insert = record {
      unswapped = is.unswapped;
      before = λ n kind earlier. elim kind [
        | inr store ↦ absurd (load_is_no_store log l is.load store)
        | inl load ↦ fits.before n load earlier
      ];
      behind = fits.behind;
      barriers = λ u v _ fewer. is.barriers_here u v fewer;
      barrier_before = λ n store _ earlier fewer. fits.barrier n store earlier fewer;
      swaps = λ n swap. inl (is.swap_here n swap);
      between = λ _ _ store. absurd (load_is_no_store log l is.load store);
    }

    -- the order with it
    abbrev Rank : ℕ → ℕ
    Rank = inserted l rank cut

    -- A load sees the stores in the log that it sees in the trace.
    sees_in_trace : (s n : ℕ) → Sees log Rank (skip l s) (skip l n) → Sees t rank s n
    sees_in_trace s n (store, address, seen) = (
      store_here log t l is.without s store,
      address_here log t l is.without s n address,
      ⊎_elim (λ low. inl (up_here l rank cut s n low)) (λ earlier. inr (earlier_here log t l is.without s n earlier)) seen,
    )

    -- and the other way round
    sees_in_log : (s n : ℕ) → Sees t rank s n → Sees log Rank (skip l s) (skip l n)
    sees_in_log s n (store, address, seen) = (
      store_there log t l is.without s store,
      address_there log t l is.without s n address,
      ⊎_elim (λ low. inl (up_there l rank cut s n low)) (λ earlier. inr (earlier_there log t l is.without s n earlier)) seen,
    )

    -- The dropped load sees what the kept one sees.
    dropped_sees : (s : ℕ) → Sees log Rank (skip l s) l → Sees t rank s k
    dropped_sees s (store, address, seen) =
        let store_of_t = store_here log t l is.without s store in (
          store_of_t,
          address_here log t l is.without s k (address_chain log (skip l s) l (skip l k) address (address_back log (skip l k) l fits.address)),
          fits.sees_kept s store_of_t address (⊎_elim (λ low. inl (before_here l rank cut s low)) (λ earlier. inr earlier) seen),
        )

    -- and the kept one what the dropped one sees
    kept_sees : (s : ℕ) → Sees t rank s k → Sees log Rank (skip l s) l
    kept_sees s (store, address, seen) = (
      store_there log t l is.without s store,
      address_chain log (skip l s) (skip l k) l (address_there log t l is.without s k address) fits.address,
      ⊎_elim (λ less. inl (before_there l rank cut s less)) (λ earlier. inr earlier) (fits.kept_sees s store seen),
    )

    -- each store of the log is one of the trace
    at_stores : (P : ℕ → Type 0) → ((n : ℕ) → P (skip l n)) → (s : ℕ) → IsStore log s → P s
    at_stores P each s store =
        at_each log t l is.without (λ m. IsStore log m → P m) (λ other. absurd (load_is_no_store log l is.load other)) (λ n _ _. each n) s (store_event log s store) store

    -- another load reads what it read
    reads_other : (n : ℕ) → IsLoad t n → ReadsLast log Rank (skip l n)
    reads_other n load = elim (right.value n load) [
      | inl none ↦ inl (first_there log t l is.without n none.0, λ s seen. at_stores (λ m. Sees log Rank m (skip l n) → ⊥) (λ m m_seen. none.1 m (sees_in_trace m n m_seen)) s seen.0 seen)
      | inr last ↦ inr (
        skip l last.0,
        sees_in_log last.0 n last.1,
        value_there log t l is.without last.0 n last.2,
        λ o seen. at_stores (λ m. Sees log Rank m (skip l n) → Rank m ≤ Rank (skip l last.0)) (λ m m_seen. up_there l rank cut m last.0 (last.3 m (sees_in_trace m n m_seen))) o seen.0 seen,
      )
    ]

    -- and so does the dropped one
    reads_dropped : ReadsLast log Rank l
    reads_dropped = elim (right.value k fits.kept) [
      | inl none ↦ inl (
        first_chain log (skip l k) l fits.address fits.value (first_there log t l is.without k none.0),
        λ s seen. at_stores (λ m. Sees log Rank m l → ⊥) (λ m m_seen. none.1 m (dropped_sees m m_seen)) s seen.0 seen,
      )
      | inr last ↦ inr (
        skip l last.0,
        kept_sees last.0 last.1,
        value_chain log (skip l last.0) (skip l k) l (value_there log t l is.without last.0 k last.2) fits.value,
        λ o seen. at_stores (λ m. Sees log Rank m l → Rank m ≤ Rank (skip l last.0)) (λ m m_seen. up_there l rank cut m last.0 (last.3 m (dropped_sees m m_seen))) o seen.0 seen,
      )
    ]

    -- each load of the log reads what it read
    reads : (n : ℕ) → IsLoad log n → ReadsLast log Rank n
    reads n load =
        at_each log t l is.without (λ m. IsLoad log m → ReadsLast log Rank m) (λ _. reads_dropped) (λ m _ is_load. reads_other m (load_here log t l is.without m is_load)) n (load_event log n load) load

    -- an order of the trace, with the load at the cut, is one of the log
    pub dropped_back : IsModelRank log Rank
    dropped_back = order_with log t l is.without rank right cut can_insert reads

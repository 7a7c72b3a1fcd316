-- An order of a log is one of the log with an idle swap read as a load.
use Rattle.std.proofs.Common.{◌≡◌, ◌≢◌, ◌⊎◌, ◌∙◌, ℕ, suc, ◌≤◌, inl, inr, ⊎_elim, sym, ap, subst, arith}
use Rattle.std.proofs.lemmas.Bool.{cases_eq}
use Rattle.tso_ops.specs.declared.events.Event.{Event}
use Rattle.tso_ops.specs.declared.settings.Order.TheVariants.{Tso}
use Rattle.tso_ops.specs.Settings.{first_value}
use Rattle.tso_ops.specs.Values.{TraceValue}
use Rattle.tso_ops.specs.Events.{IsLoad, IsStore, IsSwapLoad, HasFirstValue, SameAddress, SameValue, Earlier, HasFewerBarriersBefore}
use Rattle.tso_ops.proofs.NumberFacts.{event_unique, load_event, store_event}
use Rattle.tso_ops.proofs.SwapFacts.{IsSwapLoad-store, IsSwapLoad-earlier}
use Rattle.log_thinning.proofs.RankModels.{IsModelRank, Sees, ReadsLast}
use Rattle.log_thinning.proofs.Skips.{skip, skip-below, skip-never}
use Rattle.log_thinning.proofs.Without.{IsWithout, load_there, store_there, earlier_there, first_here, rank_there, sees_there, reads_kept, order_without}

-- The trace t is the log, under TSO, with its swap w read as a barrier and a load: w stores what it read.
pub record IsIdleRead (log t : TraceValue) (w : ℕ) : Type 0 where
  pub without : IsWithout log t (suc w)
  pub tso : log.setting.order ≡ Tso
  pub swap : IsSwapLoad log w
  pub address : SameAddress log (suc w) w
  pub value : SameValue log (suc w) w
  -- in the trace it is a load and no swap
  pub load : IsLoad t w
  pub unswapped : IsSwapLoad t w → ⊥
  pub other_swap : (l : ℕ) → l ≢ w → IsSwapLoad log (skip (suc w) l) → IsSwapLoad t l × (skip (suc w) (suc l) ≡ suc (skip (suc w) l))
  -- the trace has one barrier more, before the load
  pub barrier : (u : ℕ) → Earlier t u w → HasFewerBarriersBefore t u w
  pub barriers : (u v : ℕ) → Earlier t u v → HasFewerBarriersBefore t u v →
      HasFewerBarriersBefore log (skip (suc w) u) (skip (suc w) v) ⊎ (Earlier t u w × ((v ≡ w) ⊎ Earlier t w v))
  pub barriers_back : (u v : ℕ) → Earlier t u v → HasFewerBarriersBefore log (skip (suc w) u) (skip (suc w) v) → HasFewerBarriersBefore t u v

-- what is at one address with another event, and that with a third
pub address_chain : (t : TraceValue) (u v w : ℕ) → SameAddress t u v → SameAddress t v w → SameAddress t u w
address_chain t u v w (d, e, at_d, at_e, same) (e', f, at_e', at_f, same') =
    (d, f, at_d, at_f, same ∙ ap (λ (x : Event). x.a) (event_unique t v e e' at_e at_e') ∙ same')

-- the order doesn't matter
pub address_back : (t : TraceValue) (u v : ℕ) → SameAddress t u v → SameAddress t v u
address_back t u v (d, e, at_d, at_e, same) = (e, d, at_e, at_d, sym same)

-- the same of values
pub value_chain : (t : TraceValue) (u v w : ℕ) → SameValue t u v → SameValue t v w → SameValue t u w
value_chain t u v w (d, e, at_d, at_e, same) (e', f, at_e', at_f, same') =
    (d, f, at_d, at_f, same ∙ ap (λ (x : Event). x.value) (event_unique t v e e' at_e at_e') ∙ same')

-- and their order
pub value_back : (t : TraceValue) (u v : ℕ) → SameValue t u v → SameValue t v u
value_back t u v (d, e, at_d, at_e, same) = (e, d, at_e, at_d, sym same)

-- an event of the address and the value of one that has the first value has it too
pub first_chain : (t : TraceValue) (u v : ℕ) → SameAddress t u v → SameValue t u v → HasFirstValue t u → HasFirstValue t v
first_chain t u v (d, e, at_d, at_e, same) (d', e', at_d', at_e', value) (c, at_c, is) = (
  e,
  at_e,
  ap (λ (x : Event). x.value) (event_unique t v e e' at_e at_e') ∙ sym value ∙ ap (λ (x : Event). x.value) (event_unique t u d' c at_d' at_c) ∙ is
      ∙ ap (λ (x : Event). first_value t.setting.first x.a) (event_unique t u c d at_c at_d) ∙ ap (first_value t.setting.first) same,
)

-- what is program-earlier than an event is so than one behind it
pub earlier_chain : (t : TraceValue) (u v w : ℕ) → Earlier t u v → Earlier t v w → Earlier t u w
earlier_chain t u v w (d, e, at_d, at_e, same, less) (e', f, at_e', at_f, same', less') =
    (d, f, at_d, at_f, same ∙ ap (λ (x : Event). x.proc) (event_unique t v e e' at_e at_e') ∙ same', omega (arith, less, less'))

module _ (log t : TraceValue) (w : ℕ) (is : IsIdleRead log t w) (rank : ℕ → ℕ) (right : IsModelRank log rank) where
  -- the swap's store
  swap_store : IsStore log (suc w)
  swap_store = IsSwapLoad-store log w is.swap

  -- and its load
  swap_load : IsLoad log w
  swap_load = (is.swap.0, is.swap.1, is.swap.2)

  -- a store that is left comes before the swap's load where it comes before the swap's store
  kept_before : (s : ℕ) → IsStore log s → s ≢ suc w → rank s ≤ rank (suc w) → rank s ≤ rank w
  kept_before s store other low =
      ⊎_elim
      (λ before. before)
      (λ after. absurd (other (right.apart s (suc w) (store_event log s store) (store_event log (suc w) swap_store) (omega (arith, low, after)))))
      (right.atomicity w s is.swap store other)

  -- a store that the swap's load sees comes before it in the order
  seen_before : (s : ℕ) → Sees log rank s w → (rank s ≤ rank w) × (s ≢ suc w)
  seen_before s (store, address, seen) = elim seen [
    | inl low ↦ (low, λ same. not_both (subst (λ n. rank n ≤ rank w) same low))
    | inr earlier ↦ (
      let less = earlier.5 in
          let other : s ≢ suc w = λ same. omega (arith, less, same) in
          kept_before s store other
          (right.store_store s (suc w) store swap_store (earlier_chain log s w (suc w) earlier (IsSwapLoad-earlier log w is.swap)) (inl is.tso)),
      λ same. let less = earlier.5 in omega (arith, less, same),
    )
  ]
    where
      not_both : rank (suc w) ≤ rank w → ⊥
      not_both low =
          let up = right.swap w is.swap in
          let one = right.apart w (suc w) (load_event log w swap_load) (store_event log (suc w) swap_store) (omega (arith, low, up)) in
          omega (arith, one)

  -- what the barrier keeps in order is so in the log
  barrier_kept : (u v : ℕ) → IsStore t u → IsLoad t v → Earlier t u v → HasFewerBarriersBefore t u v → rank (skip (suc w) u) ≤ rank (skip (suc w) v)
  barrier_kept u v store load earlier fewer = elim (is.barriers u v earlier fewer) [
    | inl there ↦ right.membar (skip (suc w) u) (skip (suc w) v) (store_there log t (suc w) is.without u store) (load_there log t (suc w) is.without v load) (earlier_there log t (suc w) is.without u v earlier) there
    | inr between ↦ (
        let here : skip (suc w) w ≡ w = skip-below (suc w) w (omega arith) in
        let first : Earlier log (skip (suc w) u) w = subst (Earlier log (skip (suc w) u)) here (earlier_there log t (suc w) is.without u w between.0) in
        let store_u = store_there log t (suc w) is.without u store in
        let before : rank (skip (suc w) u) ≤ rank w =
        kept_before (skip (suc w) u) store_u (skip-never (suc w) u)
        (right.store_store (skip (suc w) u) (suc w) store_u swap_store (earlier_chain log (skip (suc w) u) w (suc w) first (IsSwapLoad-earlier log w is.swap)) (inl is.tso)) in
        elim between.1 [
          | inl same ↦ subst (λ n. rank (skip (suc w) u) ≤ rank n) (sym here ∙ ap (skip (suc w)) (sym same)) before
          | inr behind ↦ (
              let after = right.load_op w (skip (suc w) v) swap_load (subst (λ n. Earlier log n (skip (suc w) v)) here (earlier_there log t (suc w) is.without w v behind)) in
              omega (arith, before, after)
              )
        ]
        )
  ]

  -- a load that read from the swap's store reads what the swap's load read
  read_idle : (l : ℕ) → IsLoad t l → Sees log rank (suc w) (skip (suc w) l) → SameValue log (suc w) (skip (suc w) l) →
      ((other : ℕ) → Sees log rank other (skip (suc w) l) → rank other ≤ rank (suc w)) → ReadsLast t (rank_there log t (suc w) is.without rank right) l
  read_idle l load seen value last = by_read (right.value w swap_load)
    where
      there : ℕ
      there = skip (suc w) l

      address : SameAddress log w there
      address = address_chain log w (suc w) there (address_back log (suc w) w is.address) seen.1

      same : SameValue log w there
      same = value_chain log w (suc w) there (value_back log (suc w) w is.value) value

      -- what the load sees the swap's load sees
      seen_by_swap : (o : ℕ) → Sees t (rank_there log t (suc w) is.without rank right) o l → Sees log rank (skip (suc w) o) w
      seen_by_swap o o_seen =
          let o_there = sees_there log t (suc w) is.without rank right o l o_seen in (
            o_there.0,
            address_chain log (skip (suc w) o) there w o_there.1 (address_back log w there address),
            inl (kept_before (skip (suc w) o) o_there.0 (skip-never (suc w) o) (last (skip (suc w) o) o_there)),
          )

      -- and the other way round
      low_there : (s : ℕ) → rank s ≤ rank w → rank s ≤ rank there
      low_there s low = elim seen.2 [
        | inl up ↦ (let swap_up = right.swap w is.swap in omega (arith, low, up, swap_up))
        | inr earlier ↦ (
            let up = right.load_op w there swap_load (earlier_chain log w (suc w) there (IsSwapLoad-earlier log w is.swap) earlier) in omega (arith, low, up)
            )
      ]

      by_read : ReadsLast log rank w → ReadsLast t (rank_there log t (suc w) is.without rank right) l
      by_read (inl (first, none)) = inl (first_here log t (suc w) is.without l (first_chain log w there address same first), λ o o_seen. none (skip (suc w) o) (seen_by_swap o o_seen))
      by_read (inr (s, s_seen, s_value, s_last)) =
          let before = seen_before s s_seen in
          reads_kept log t (suc w) is.without rank right l s before.1
          (s_seen.0, address_chain log s w there s_seen.1 address, inl (low_there s before.0)) (value_chain log s w there s_value same)
          (λ o o_seen. s_last (skip (suc w) o) (seen_by_swap o o_seen))

  -- each load reads what it read
  reads : (l : ℕ) → IsLoad t l → ReadsLast t (rank_there log t (suc w) is.without rank right) l
  reads l load = by_read (right.value (skip (suc w) l) (load_there log t (suc w) is.without l load))
    where
      by_read : ReadsLast log rank (skip (suc w) l) → ReadsLast t (rank_there log t (suc w) is.without rank right) l
      by_read (inl (first, none)) = inl (first_here log t (suc w) is.without l first, λ s seen. none (skip (suc w) s) (sees_there log t (suc w) is.without rank right s l seen))
      by_read (inr (s, seen, value, last)) = elim (cases_eq s (suc w)) [
        | inl idle ↦ read_idle l load (subst (λ n. Sees log rank n (skip (suc w) l)) idle seen) (subst (λ n. SameValue log n (skip (suc w) l)) idle value)
            (subst (λ n. (other : ℕ) → Sees log rank other (skip (suc w) l) → rank other ≤ rank n) idle last)
        | inr other ↦ reads_kept log t (suc w) is.without rank right l s other seen value
            (λ o o_seen. last (skip (suc w) o) (sees_there log t (suc w) is.without rank right o l o_seen))
      ]

  -- the order of the log without the swap's store is one of the trace
  pub idle_read_order : IsModelRank t (rank_there log t (suc w) is.without rank right)
  idle_read_order = order_without log t (suc w) is.without rank right barrier_kept reads

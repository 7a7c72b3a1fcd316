-- An order of a log with an idle swap read as a load, with the swap's store right behind the load, is one of the log.
use Rattle.std.proofs.Common.{◌≡◌, ◌≢◌, ◌⊎◌, ◌∙◌, ℕ, suc, ◌<◌, ◌≤◌, Bool, true, false, List, [], ◌∷◌, inl, inr, ⊎_elim, refl, sym, ap, subst, length, arith}
use Rattle.std.proofs.lemmas.Bool.{cases_eq, cases_lt}
use Rattle.order_paths.proofs.Decisions.{Decision, Decision-both, Decision-either}
use Rattle.tso_ops.specs.declared.events.Event.{Event}
use Rattle.tso_ops.specs.Settings.{first_value}
use Rattle.tso_ops.specs.Values.{TraceValue}
use Rattle.tso_ops.specs.Events.{IsEvent, IsLoad, IsStore, IsSwapLoad, HasFirstValue, SameAddress, SameValue, Earlier}
use Rattle.tso_ops.proofs.NumberFacts.{event_unique, load_event, store_event, load_is_no_store}
use Rattle.tso_ops.proofs.SwapFacts.{IsSwapLoad-store, IsSwapLoad-earlier}
use Rattle.tso_model.specs.Axioms.{IsConsistent, place}
use Rattle.tso_model.proofs.Decided.{SameAddress-decided, Earlier-decided}
use Rattle.tso_model.proofs.Places.{place-here, place-later}
use Rattle.log_thinning.proofs.IdleForward.{IsIdleRead, address_chain, address_back, value_chain, value_back, earlier_chain}
use Rattle.log_thinning.proofs.Inserted.{inserted, CanInsert, order_with, up_there, up_here, before_there, behind_there, behind_here}
use Rattle.log_thinning.proofs.QuietOrders.{low_decided, quiet, quiet_order, quiet_swaps}
use Rattle.log_thinning.proofs.RankModels.{IsModelRank, Sees, ReadsLast, ranks_of_order, order_of_ranks}
use Rattle.log_thinning.proofs.Skips.{skip, skip-below, skip-once}
use Rattle.log_thinning.proofs.Without.{at_each, load_here, store_here, store_there, earlier_there, earlier_here, address_there, address_here, value_there, first_there}

-- events of one address that have the first value have one value
first_same : (t : TraceValue) (u v : ℕ) → SameAddress t u v → HasFirstValue t u → HasFirstValue t v → SameValue t u v
first_same t u v (d, e, at_d, at_e, same) (d', at_d', is_d) (e', at_e', is_e) = (
  d',
  e',
  at_d',
  at_e',
  is_d ∙ ap (λ (x : Event). first_value t.setting.first x.a) (event_unique t u d' d at_d' at_d) ∙ ap (first_value t.setting.first) same
      ∙ ap (λ (x : Event). first_value t.setting.first x.a) (event_unique t v e e' at_e at_e') ∙ sym is_e,
)

-- The ranks are those of a quiet order: the load that is read of the swap doesn't stand between the halves of another swap.
module _ (log t : TraceValue) (w : ℕ) (is : IsIdleRead log t w) (rank : ℕ → ℕ) (right : IsModelRank t rank)
    (quiet_there : (l : ℕ) → IsSwapLoad t l → l ≢ w → (rank w ≤ rank l) ⊎ (rank (suc l) ≤ rank w)) where
  -- the load has one number in both
  here : skip (suc w) w ≡ w
  here = skip-below (suc w) w (omega arith)

  -- the number behind it is the swap's store
  swap_store : IsStore log (suc w)
  swap_store = IsSwapLoad-store log w is.swap

  -- which is behind it in its program
  swap_earlier : Earlier log w (suc w)
  swap_earlier = IsSwapLoad-earlier log w is.swap

  -- other events have other ranks
  lower : (u v : ℕ) → IsEvent t u → IsEvent t v → u ≢ v → rank u ≤ rank v → rank u < rank v
  lower u v first second other low = let apart : rank u ≡ rank v → ⊥ = λ same. other (right.apart u v first second same) in omega (arith, low, apart)

  -- a load or a store before the load in its program is so in the order
  before_load : (n : ℕ) → Earlier t n w → rank n ≤ rank w
  before_load n earlier = by_kind earlier.0.load refl
    where
      by_kind : (load : Bool) → earlier.0.load ≡ load → rank n ≤ rank w
      by_kind true kind = right.load_op n w (earlier.0, earlier.2, kind) earlier
      by_kind false kind = right.membar n w (earlier.0, earlier.2, kind) is.load earlier (is.barrier n earlier)

  -- what is before the swap's store in its program is the load or before it
  before_store : (n : ℕ) → Earlier log (skip (suc w) n) (suc w) → rank n ≤ rank w
  before_store n earlier = elim (cases_eq (skip (suc w) n) w) [
    | inl same ↦ (let one : rank n ≡ rank w = ap rank (skip-once (suc w) n w (same ∙ sym here)) in omega (arith, one))
    | inr other ↦ (
        let less = earlier.5 in
        let own = ap (λ (x : Event). x.proc) (event_unique log (suc w) earlier.1 swap_earlier.1 earlier.3 swap_earlier.3) in
        let first : Earlier log (skip (suc w) n) w = (earlier.0, swap_earlier.0, earlier.2, swap_earlier.2, earlier.4 ∙ own ∙ sym swap_earlier.4, omega (arith, less, other)) in
        before_load n (earlier_here log t (suc w) is.without n w (subst (Earlier log (skip (suc w) n)) (sym here) first))
        )
  ]

  -- what is behind it comes behind the load
  behind_store : (n : ℕ) → Earlier log (suc w) (skip (suc w) n) → rank w < rank n
  behind_store n earlier =
      let after = earlier_here log t (suc w) is.without w n (subst (λ m. Earlier log m (skip (suc w) n)) (sym here) (earlier_chain log w (suc w) (skip (suc w) n) swap_earlier earlier)) in
      lower w n (after.0, after.2) (after.1, after.3) (λ same. let less = after.5 in omega (arith, less, same)) (right.load_op w n is.load after)

  -- so the store can stand right behind the load
  can_insert : CanInsert log t (suc w) rank (suc (rank w))
  can_insert = record {
    unswapped = λ swap. load_is_no_store log (suc w) (swap.0, swap.1, swap.2) swap_store;
    before = λ n _ earlier. let low = before_store n earlier in omega (arith, low);
    behind = λ n earlier. let less = behind_store n earlier in omega (arith, less);
    barriers = is.barriers_back;
    barrier_before = λ n _ load _ _. absurd (load_is_no_store log (suc w) load swap_store);
    swaps = λ n swap. elim (cases_eq n w) [
      | inl same ↦ inr (ap (λ m. suc (rank m)) same, ap (λ m. suc (skip (suc w) m)) same ∙ ap suc here)
      | inr other ↦ inl (is.other_swap n other swap)
    ];
    between = λ l swap _.
        let other : l ≢ w = λ same. is.unswapped (subst (IsSwapLoad t) same swap) in
        ⊎_elim
        (λ low. inl (let less = lower w l (load_event t w is.load) (swap.0, swap.1) (λ same. other (sym same)) low in omega (arith, less)))
        (λ high. inr (omega (arith, high)))
        (quiet_there l swap other);
  }

  -- the order with the store there
  abbrev Rank : ℕ → ℕ
  Rank = inserted (suc w) rank (suc (rank w))

  -- ---- what loads see

  -- a store of the trace is seen in both
  sees_in_trace : (s n : ℕ) → Sees log Rank (skip (suc w) s) (skip (suc w) n) → Sees t rank s n
  sees_in_trace s n (store, address, seen) = (
    store_here log t (suc w) is.without s store,
    address_here log t (suc w) is.without s n address,
    ⊎_elim (λ low. inl (up_here (suc w) rank (suc (rank w)) s n low)) (λ earlier. inr (earlier_here log t (suc w) is.without s n earlier)) seen,
  )

  -- and the other way round
  sees_in_log : (s n : ℕ) → Sees t rank s n → Sees log Rank (skip (suc w) s) (skip (suc w) n)
  sees_in_log s n (store, address, seen) = (
    store_there log t (suc w) is.without s store,
    address_there log t (suc w) is.without s n address,
    ⊎_elim (λ low. inl (up_there (suc w) rank (suc (rank w)) s n low)) (λ earlier. inr (earlier_there log t (suc w) is.without s n earlier)) seen,
  )

  -- who sees the swap's store comes behind the load, at its address
  sees_swap : (n : ℕ) → Sees log Rank (suc w) (skip (suc w) n) → (rank w < rank n) × SameAddress t w n
  sees_swap n (store, address, seen) = (
    elim seen [ inl low ↦ (let high = behind_here (suc w) rank (suc (rank w)) n low in omega (arith, high)) | inr earlier ↦ behind_store n earlier ],
    address_here log t (suc w) is.without w n
        (subst (λ m. SameAddress log m (skip (suc w) n)) (sym here) (address_chain log w (suc w) (skip (suc w) n) (address_back log (suc w) w is.address) address)),
  )

  -- whether the swap's store is seen is decided
  sees_swap_decided : (n : ℕ) → Decision (Sees log Rank (suc w) (skip (suc w) n))
  sees_swap_decided n =
      elim (Decision-both (SameAddress-decided log (suc w) (skip (suc w) n)) (Decision-either (low_decided (Rank (suc w)) (Rank (skip (suc w) n))) (Earlier-decided log (suc w) (skip (suc w) n)))) [
        | inl both ↦ inl (swap_store, both.0, both.1)
        | inr none ↦ inr (λ seen. none (seen.1, seen.2))
      ]

  -- the swap's store or another one
  at_stores : (P : ℕ → Type 0) → P (suc w) → ((n : ℕ) → P (skip (suc w) n)) → (s : ℕ) → IsStore log s → P s
  at_stores P swap each s store = at_each log t (suc w) is.without P swap (λ n _. each n) s (store_event log s store)

  -- A load that doesn't see the swap's store reads what it reads in the trace.
  reads_other : (n : ℕ) → (Sees log Rank (suc w) (skip (suc w) n) → ⊥) → ReadsLast t rank n → ReadsLast log Rank (skip (suc w) n)
  reads_other n unseen (inl (first, none)) =
      inl (first_there log t (suc w) is.without n first, λ s seen. at_stores (λ m. Sees log Rank m (skip (suc w) n) → ⊥) unseen (λ m m_seen. none m (sees_in_trace m n m_seen)) s seen.0 seen)
  reads_other n unseen (inr (s, seen, value, last)) = inr (
    skip (suc w) s,
    sees_in_log s n seen,
    value_there log t (suc w) is.without s n value,
    λ o o_seen. at_stores (λ m. Sees log Rank m (skip (suc w) n) → Rank m ≤ Rank (skip (suc w) s)) (λ idle. absurd (unseen idle))
        (λ m m_seen. up_there (suc w) rank (suc (rank w)) m s (last m (sees_in_trace m n m_seen))) o o_seen.0 o_seen,
  )

  -- what the load sees comes before it
  below_load : (s : ℕ) → Sees t rank s w → rank s ≤ rank w
  below_load s (store, address, seen) = ⊎_elim (λ low. low) (λ earlier. before_load s earlier) seen

  module _ (n : ℕ) (behind : rank w < rank n) (address : SameAddress t w n) where
    -- a load behind it, at its address, sees what it sees
    sees_more : (s : ℕ) → Sees t rank s w → Sees t rank s n
    sees_more s seen = let low = below_load s seen in (seen.0, address_chain t s w n seen.1 address, inl (omega (arith, low, behind)))

    -- and it sees what that sees and comes before it
    sees_less : (s : ℕ) → Sees t rank s n → rank s ≤ rank w → Sees t rank s w
    sees_less s seen low = (seen.0, address_chain t s n w seen.1 (address_back t w n address), inl low)

    -- both read one value, if no store that the one sees comes between
    one_value : ReadsLast t rank w → ReadsLast t rank n → ((s : ℕ) → Sees t rank s n → ((o : ℕ) → Sees t rank o n → rank o ≤ rank s) → rank s ≤ rank w) → SameValue t w n
    one_value (inl (first_w, _)) (inl (first_n, _)) low = first_same t w n address first_w first_n
    one_value (inl (_, none)) (inr (s, seen, value, last)) low = absurd (none s (sees_less s seen (low s seen last)))
    one_value (inr (s, seen, _, _)) (inl (_, none)) low = absurd (none s (sees_more s seen))
    one_value (inr (s, seen, value, last)) (inr (s', seen', value', last')) low =
        let up = last' s (sees_more s seen) in
        let down = last s' (sees_less s' seen' (low s' seen' last')) in
        let one = right.apart s s' (store_event t s seen.0) (store_event t s' seen'.0) (omega (arith, up, down)) in
        value_chain t w s n (value_back t s w value) (subst (λ m. SameValue t m n) (sym one) value')

  -- A load that sees the swap's store reads from it, or from a later store of the trace.
  reads_swap : (n : ℕ) → IsLoad t n → Sees log Rank (suc w) (skip (suc w) n) → ReadsLast log Rank (skip (suc w) n)
  reads_swap n load seen = by_read (right.value n load)
    where
      side : (rank w < rank n) × SameAddress t w n
      side = sees_swap n seen

      from_swap : SameValue t w n → ((o : ℕ) → Sees t rank o n → rank o ≤ rank w) → ReadsLast log Rank (skip (suc w) n)
      from_swap same low = inr (
        suc w,
        seen,
        value_chain log (suc w) w (skip (suc w) n) is.value (subst (λ m. SameValue log m (skip (suc w) n)) here (value_there log t (suc w) is.without w n same)),
        λ o o_seen. at_stores (λ m. Sees log Rank m (skip (suc w) n) → Rank m ≤ Rank (suc w)) (λ _. omega arith)
            (λ m m_seen. before_there (suc w) rank (suc (rank w)) m (let least = low m (sees_in_trace m n m_seen) in omega (arith, least))) o o_seen.0 o_seen,
      )

      by_read : ReadsLast t rank n → ReadsLast log Rank (skip (suc w) n)
      by_read (inl (first, none)) =
          from_swap (one_value n side.0 side.1 (right.value w is.load) (inl (first, none)) (λ s s_seen _. absurd (none s s_seen))) (λ o o_seen. absurd (none o o_seen))
      by_read (inr (s, s_seen, value, last)) = elim (cases_lt (rank w) (rank s)) [
        | inl later ↦ inr (
          skip (suc w) s,
          sees_in_log s n s_seen,
          value_there log t (suc w) is.without s n value,
          λ o o_seen. at_stores (λ m. Sees log Rank m (skip (suc w) n) → Rank m ≤ Rank (skip (suc w) s)) (λ _. behind_there (suc w) rank (suc (rank w)) s (omega (arith, later)))
              (λ m m_seen. up_there (suc w) rank (suc (rank w)) m s (last m (sees_in_trace m n m_seen))) o o_seen.0 o_seen,
        )
        | inr low ↦ from_swap
            (one_value n side.0 side.1 (right.value w is.load) (inr (s, s_seen, value, last)) (λ o o_seen o_last. let up = o_last s s_seen in let down = last o o_seen in omega (arith, up, down, low)))
            (λ o o_seen. let down = last o o_seen in omega (arith, down, low))
      ]

  -- each load of the log reads what it read
  reads : (l : ℕ) → IsLoad log l → ReadsLast log Rank l
  reads l load =
      at_each log t (suc w) is.without (λ m. IsLoad log m → ReadsLast log Rank m) (λ other. absurd (load_is_no_store log (suc w) other swap_store))
      (λ n _ is_load.
      let here_load = load_here log t (suc w) is.without n is_load in
      elim (sees_swap_decided n) [ inl seen ↦ reads_swap n here_load seen | inr unseen ↦ reads_other n unseen (right.value n here_load) ])
      l (load_event log l load) load

  -- the order with the store is one of the log
  with_swap_order : IsModelRank log Rank
  with_swap_order = order_with log t (suc w) is.without rank right (suc (rank w)) can_insert reads

-- a place is at most the list's length
place-within : (order : List ℕ) (n : ℕ) → place order n ≤ length order
place-within [] n = omega arith
place-within (x ∷ rest) n = elim (cases_eq x n) [
  | inl same ↦ omega (arith, place-here x rest n same)
  | inr other ↦ omega (arith, place-later x rest n other, place-within rest n)
]

-- an order of the trace gives one of the log
pub idle_read_back : (log t : TraceValue) (w : ℕ) → IsIdleRead log t w → IsConsistent t → IsConsistent log
idle_read_back log t w is (order, right) =
    let ranks = ranks_of_order t order right in
    let below : (n : ℕ) → place order n < suc (length order) = λ n. (let low = place-within order n in omega (arith, low)) in
    order_of_ranks log _
    (with_swap_order log t w is (quiet t (place order) ranks (suc (length order)) below) (quiet_order t (place order) ranks (suc (length order)) below)
    (λ l swap other. quiet_swaps t (place order) ranks (suc (length order)) below w l is.load is.barrier swap other))

-- The order of the pieces of accesses: where the accesses go, and of those of one place in program order.
use Rattle.std.proofs.Common.{◌≡◌, ◌≢◌, ◌⊎◌, ◌∙◌, ℕ, suc, ◌+◌, ◌*◌, ◌<◌, ◌≤◌, Bool, true, false, Some, inl, inr, ⊎_elim, refl, sym, ap, subst, arith}
use Rattle.std.proofs.lemmas.Bool.{cases_eq, cases_lt, cases_order}
use Rattle.tso_ops.specs.declared.events.Event.{Event}
use Rattle.tso_ops.specs.Values.{TraceValue}
use Rattle.tso_ops.specs.Events.{event_at, event_total, IsEvent, IsLoad, IsStore, IsSwapLoad, SameAddress, Earlier, HasFewerBarriersBefore, HasFewerStbarsBefore}
use Rattle.tso_ops.proofs.NumberFacts.{event_unique, event_at-within, load_event, store_event, load_is_no_store}
use Rattle.tso_ops.proofs.SwapFacts.{IsSwapLoad-store}
use Rattle.log_text.specs.Splits.{piece_value}
use Rattle.log_thinning.proofs.AlikeOrders.{OfOneProcessor, one_processor_earlier, earlier_one_processor}
use Rattle.log_thinning.proofs.PairRanks.{pair_up, pair_first, pair_second}
use Rattle.log_thinning.proofs.RankModels.{IsModelRank, Sees, ReadsLast}
use Rattle.wide_orders.proofs.Homes.{IsWideRank, spot, spot-loads, spot-later_store, spot-stores, spot-stores_less, spot-behind, spot-swap, spot-crossed, spot-atomic}

-- what an event does to a piece of its place
abbrev pub piece_event : Event → ℕ × ℕ → Event
piece_event d piece = record d { a = piece.0; value = piece_value d.a d.value piece }

-- Event n of the trace u is what event g n of the trace t does to a piece of its place. The pieces of an access ascend, and of a swap each is loaded and
-- stored before the next.
pub record IsSplit (t u : TraceValue) (g : ℕ → ℕ) (part : ℕ → ℕ × ℕ) : Type 0 where
  pub comes : (n : ℕ) (e : Event) → event_at u n ≡ Some e → (d : Event) × (event_at t (g n) ≡ Some d) × (e ≡ piece_event d (part n))
  pub ordered : (m n : ℕ) → IsEvent u m → IsEvent u n → m < n →
      (g m < g n) ⊎ (((g m ≡ g n) × ((part m).0 < (part n).0)) ⊎ ((g m ≡ suc (g n)) × IsSwapLoad t (g n) × ((part m).0 < (part n).0)))
  pub swap : (l : ℕ) → IsSwapLoad u l → g (suc l) ≡ suc (g l)

module _ (t u : TraceValue) (g : ℕ → ℕ) (part : ℕ → ℕ × ℕ) (split : IsSplit t u g part) where
  -- the access of a load is a load
  pub load_there : (n : ℕ) → IsLoad u n → IsLoad t (g n)
  load_there n (e, at, load) = let from = split.comes n e at in (from.0, from.1, ap (λ (x : Event). x.load) (sym from.2) ∙ load)

  -- and that of a store a store
  pub store_there : (n : ℕ) → IsStore u n → IsStore t (g n)
  store_there n (e, at, store) = let from = split.comes n e at in (from.0, from.1, ap (λ (x : Event). x.load) (sym from.2) ∙ store)

  -- of a swap's load one of a swap
  pub swap_there : (n : ℕ) → IsSwapLoad u n → IsSwapLoad t (g n)
  swap_there n (e, at, load, swap) =
      let from = split.comes n e at in
      (from.0, from.1, ap (λ (x : Event). x.load) (sym from.2) ∙ load, ap (λ (x : Event). x.swap) (sym from.2) ∙ swap)

  -- events of one processor are of one there too
  own_there : (m n : ℕ) → OfOneProcessor u m n → OfOneProcessor t (g m) (g n)
  own_there m n (d, e, at_d, at_e, same) =
      let first = split.comes m d at_d in
      let second = split.comes n e at_e in
      (first.0, second.0, first.1, second.1, ap (λ (x : Event). x.proc) (sym first.2) ∙ same ∙ ap (λ (x : Event). x.proc) second.2)

  -- and the other way round
  pub own_here : (m n : ℕ) → IsEvent u m → IsEvent u n → OfOneProcessor t (g m) (g n) → OfOneProcessor u m n
  own_here m n (d, at_d) (e, at_e) (d', e', at_d', at_e', same) =
      let first = split.comes m d at_d in
      let second = split.comes n e at_e in
      let one : first.0.proc ≡ d'.proc = ap (λ (x : Event). x.proc) (event_unique t (g m) first.0 d' first.1 at_d') in
      let other : e'.proc ≡ second.0.proc = ap (λ (x : Event). x.proc) (event_unique t (g n) e' second.0 at_e' second.1) in
      (d, e, at_d, at_e, ap (λ (x : Event). x.proc) first.2 ∙ one ∙ same ∙ other ∙ ap (λ (x : Event). x.proc) (sym second.2))

  -- program order
  earlier_there : (m n : ℕ) → Earlier u m n → g m < g n → Earlier t (g m) (g n)
  earlier_there m n earlier less = one_processor_earlier t (g m) (g n) (own_there m n (earlier_one_processor u m n earlier)) less

  -- barriers
  bars_there : (m n : ℕ) → HasFewerBarriersBefore u m n → HasFewerBarriersBefore t (g m) (g n)
  bars_there m n (d, e, at_d, at_e, fewer) =
      let first = split.comes m d at_d in
      let second = split.comes n e at_e in
      let one : d.bars ≡ first.0.bars = ap (λ (x : Event). x.bars) first.2 in
      let other : e.bars ≡ second.0.bars = ap (λ (x : Event). x.bars) second.2 in
      (first.0, second.0, first.1, second.1, omega (arith, fewer, one, other))

  -- and STBARs
  stbars_there : (m n : ℕ) → HasFewerStbarsBefore u m n → HasFewerStbarsBefore t (g m) (g n)
  stbars_there m n (d, e, at_d, at_e, fewer) =
      let first = split.comes m d at_d in
      let second = split.comes n e at_e in
      let one : d.stbars ≡ first.0.stbars = ap (λ (x : Event). x.stbars) first.2 in
      let other : e.stbars ≡ second.0.stbars = ap (λ (x : Event). x.stbars) second.2 in
      (first.0, second.0, first.1, second.1, omega (arith, fewer, one, other))

  -- the piece that an event is at
  address_is : (n : ℕ) (e : Event) → event_at u n ≡ Some e → e.a ≡ (part n).0
  address_is n e at = ap (λ (x : Event). x.a) (split.comes n e at).2

  -- and events at one address are at pieces of one
  pub same_part : (m n : ℕ) → SameAddress u m n → (part m).0 ≡ (part n).0
  same_part m n (d, e, at_d, at_e, same) = sym (address_is m d at_d) ∙ same ∙ address_is n e at_e

  -- a load or a store
  kind_of : (n : ℕ) → IsEvent u n → IsLoad u n ⊎ IsStore u n
  kind_of n (e, at) = by_kind e.load refl
    where
      by_kind : (b : Bool) → e.load ≡ b → IsLoad u n ⊎ IsStore u n
      by_kind true is = inl (e, at, is)
      by_kind false is = inr (e, at, is)

  module _ (Share : ℕ → ℕ → Type 0) (rank : ℕ → ℕ) (right : IsWideRank t Share rank) (bound : ℕ) (below : (n : ℕ) → rank n < bound) where
    -- where an access goes
    abbrev at_spot : ℕ → ℕ
    at_spot n = spot t Share rank right bound below (g n)

    -- the rank of a piece
    pub piece_rank : ℕ → ℕ
    piece_rank n = at_spot n * suc (event_total u) + n

    -- of accesses at one place or in order program order counts
    rank_up : (m n : ℕ) → at_spot m ≤ at_spot n → m ≤ n → piece_rank m ≤ piece_rank n
    unfolding piece_rank
    rank_up m n low order = pair_up (suc (event_total u)) (at_spot m) (at_spot n) m n low order

    -- and of others their order
    rank_less : (m n : ℕ) → IsEvent u m → at_spot m < at_spot n → piece_rank m ≤ piece_rank n
    unfolding piece_rank
    rank_less m n event less =
        let next : suc (at_spot m) ≤ at_spot n = omega (arith, less) in
        let up : suc (at_spot m) * suc (event_total u) + 0 ≤ at_spot n * suc (event_total u) + n = pair_up (suc (event_total u)) (suc (at_spot m)) (at_spot n) 0 n next (omega arith) in
        let more : suc (at_spot m) * suc (event_total u) ≡ at_spot m * suc (event_total u) + suc (event_total u) = omega arith in
        let within = event_at-within u m event.0 event.1 in
        let most = within.1 in
        omega (arith, up, more, most)

    -- what stands no later goes no further
    spot_of_rank : (m n : ℕ) → IsEvent u n → piece_rank m ≤ piece_rank n → at_spot m ≤ at_spot n
    unfolding piece_rank
    spot_of_rank m n event low =
        let within = event_at-within u n event.0 event.1 in
        let most = within.1 in
        pair_first (suc (event_total u)) (at_spot m) (at_spot n) m n (omega (arith, most)) low

    -- and is no later in the program, where both go to one place
    order_of_rank : (m n : ℕ) → at_spot m ≡ at_spot n → piece_rank m ≤ piece_rank n → m ≤ n
    unfolding piece_rank
    order_of_rank m n same low = pair_second (suc (event_total u)) (at_spot m) (at_spot n) m n same low

    -- no two pieces have one rank
    rank_apart : (m n : ℕ) → IsEvent u m → IsEvent u n → piece_rank m ≡ piece_rank n → m ≡ n
    rank_apart m n first second same =
        let low = spot_of_rank m n second (omega (arith, same)) in
        let high = spot_of_rank n m first (omega (arith, same)) in
        let one : at_spot m ≡ at_spot n = omega (arith, low, high) in
        let up = order_of_rank m n one (omega (arith, same)) in
        let down = order_of_rank n m (sym one) (omega (arith, same)) in
        omega (arith, up, down)

    -- accesses in program order
    by_order : (m n : ℕ) → Earlier u m n → (Earlier t (g m) (g n) → at_spot m ≤ at_spot n) → (IsSwapLoad t (g n) → g m ≡ suc (g n) → at_spot m ≤ at_spot n) → piece_rank m ≤ piece_rank n
    by_order m n earlier there swapped =
        let less = earlier.5 in
        rank_up m n
        (elim (split.ordered m n (earlier.0, earlier.2) (earlier.1, earlier.3) less) [
          | inl before ↦ there (earlier_there m n earlier before)
          | inr (inl same) ↦ (let is : at_spot m ≡ at_spot n = ap (spot t Share rank right bound below) same.0 in omega (arith, is))
          | inr (inr swap) ↦ swapped swap.1 swap.0
        ]) (omega (arith, less))

    -- the pieces of a swap's store stand where its load's do
    in_swap : (m n : ℕ) → IsSwapLoad t (g n) → g m ≡ suc (g n) → at_spot m ≤ at_spot n
    in_swap m n swap next =
        let is : at_spot m ≡ at_spot n = ap (spot t Share rank right bound below) next ∙ sym (spot-swap t Share rank right bound below (g n) swap) in
        omega (arith, is)

    -- loads
    load_op_kept : (m n : ℕ) → IsLoad u m → Earlier u m n → piece_rank m ≤ piece_rank n
    load_op_kept m n load earlier = by_order m n earlier
        (λ there. ⊎_elim
        (λ second. spot-loads t Share rank right bound below (g m) (g n) (load_there m load) (load_there n second) there)
        (λ second. spot-later_store t Share rank right bound below (g m) (g n) (load_there m load) (store_there n second) there)
        (kind_of n (earlier.1, earlier.3)))
        (in_swap m n)

    -- stores the order of which is kept
    stores_kept : (m n : ℕ) → IsStore u m → IsStore u n → Earlier u m n → (Earlier t (g m) (g n) → rank (g m) ≤ rank (g n)) → piece_rank m ≤ piece_rank n
    stores_kept m n first second earlier there = by_order m n earlier
        (λ before. spot-stores t Share rank right bound below (g m) (g n) (store_there m first) (store_there n second) (there before))
        (in_swap m n)

    -- a store before a barrier and a load behind it
    membar_kept : (m n : ℕ) → IsStore u m → IsLoad u n → Earlier u m n → HasFewerBarriersBefore u m n → piece_rank m ≤ piece_rank n
    membar_kept m n first second earlier fewer = by_order m n earlier
        (λ before. (let less = spot-behind t Share rank right bound below (g m) (g n) (store_there m first) (load_there n second)
        (right.membar (g m) (g n) (store_there m first) (load_there n second) before (bars_there m n fewer)) in omega (arith, less)))
        (in_swap m n)

    -- the halves of a swap of a piece
    swap_kept : (l : ℕ) → IsSwapLoad u l → piece_rank l ≤ piece_rank (suc l)
    swap_kept l swap =
        let is : at_spot l ≡ at_spot (suc l) = spot-swap t Share rank right bound below (g l) (swap_there l swap) ∙ ap (spot t Share rank right bound below) (sym (split.swap l swap)) in
        rank_up l (suc l) (omega (arith, is)) (omega arith)

    -- no store stands between them
    atomicity_kept : (l s : ℕ) → IsSwapLoad u l → IsStore u s → s ≢ suc l → (piece_rank s ≤ piece_rank l) ⊎ (piece_rank (suc l) ≤ piece_rank s)
    atomicity_kept l s swap store other = elim (cases_eq (g s) (suc (g l))) [
      | inl same ↦ (
          let one : at_spot s ≡ at_spot (suc l) = ap (spot t Share rank right bound below) (same ∙ sym (split.swap l swap)) in
          let two : at_spot l ≡ at_spot (suc l) = spot-swap t Share rank right bound below (g l) (swap_there l swap) ∙ ap (spot t Share rank right bound below) (sym (split.swap l swap)) in
          elim (cases_lt l s) [
            | inl later ↦ inr (rank_up (suc l) s (omega (arith, one)) (omega (arith, later)))
            | inr before ↦ inl (rank_up s l (omega (arith, one, two)) before)
          ]
          )
      | inr apart ↦ elim (spot-atomic t Share rank right bound below (g l) (g s) (swap_there l swap) (store_there s store) apart) [
        | inl before ↦ inl (rank_less s l (store_event u s store) before)
        | inr after ↦ (
            let second = IsSwapLoad-store u l swap in
            let is : at_spot (suc l) ≡ spot t Share rank right bound below (suc (g l)) = ap (spot t Share rank right bound below) (split.swap l swap) in
            inr (rank_less (suc l) s (store_event u (suc l) second) (omega (arith, after, is)))
            )
      ]
    ]

    -- ---- what loads see

    -- a store in a swap's load's own place would be its own
    other_piece : (m n : ℕ) → IsStore u m → IsLoad u n → SameAddress u m n → m < n → g m < g n
    other_piece m n store load address less =
        let same = same_part m n address in
        elim (split.ordered m n (store_event u m store) (load_event u n load) less) [
          | inl before ↦ before
          | inr (inl one) ↦ absurd (let low = one.1 in omega (arith, same, low))
          | inr (inr swap) ↦ absurd (let low = swap.2 in omega (arith, same, low))
        ]

    -- what a load sees its access sees
    pub seen_there : (o n : ℕ) → IsLoad u n → Sees u piece_rank o n → (rank (g o) ≤ rank (g n)) ⊎ Earlier t (g o) (g n)
    seen_there o n load (store, address, seen) = by_order_seen seen
      where
        by_order_seen : (piece_rank o ≤ piece_rank n) ⊎ Earlier u o n → (rank (g o) ≤ rank (g n)) ⊎ Earlier t (g o) (g n)
        by_order_seen (inr earlier) = inr (earlier_there o n earlier (other_piece o n store load address earlier.5))
        by_order_seen (inl low) =
            elim (spot-crossed t Share rank right bound below (g n) (g o) (load_there n load) (store_there o store) (spot_of_rank o n (load_event u n load) low)) [
              | inl before ↦ inl before
              | inr (inl earlier) ↦ inr earlier
              | inr (inr swap) ↦ absurd (
                  let is : at_spot o ≡ at_spot n = ap (spot t Share rank right bound below) swap.1 ∙ sym (spot-swap t Share rank right bound below (g n) swap.0) in
                  let up = order_of_rank o n is low in
                  let apart : o ≡ n → ⊥ = λ same. load_is_no_store u n load (subst (IsStore u) same store) in
                  let less = other_piece o n store load address (omega (arith, up, apart)) in
                  let next = swap.1 in
                  omega (arith, less, next)
                  )
            ]

    -- a store of the same piece that the access sees is seen
    pub seen_here : (s n : ℕ) → IsStore u s → IsLoad u n → SameAddress u s n → (rank (g s) ≤ rank (g n)) ⊎ Earlier t (g s) (g n) → Sees u piece_rank s n
    seen_here s n store load address (inl low) =
        (store, address, inl (rank_less s n (store_event u s store) (spot-behind t Share rank right bound below (g s) (g n) (store_there s store) (load_there n load) low)))
    seen_here s n store load address (inr earlier) =
        let own = own_here s n (store_event u s store) (load_event u n load) (earlier_one_processor t (g s) (g n) earlier) in
        let less = earlier.5 in (
          store,
          address,
          inr (one_processor_earlier u s n own (elim (cases_order s n) [
            | inl same ↦ absurd (load_is_no_store u n load (subst (IsStore u) same store))
            | inr (inl before) ↦ before
            | inr (inr after) ↦ absurd (elim (split.ordered n s (load_event u n load) (store_event u s store) after) [
              | inl low ↦ omega (arith, low, less)
              | inr (inl one) ↦ (let same = one.0 in omega (arith, same, less))
              | inr (inr swap) ↦ (let is = swap.1 in load_is_no_store t (g s) (is.0, is.1, is.2) (store_there s store))
            ])
          ])),
        )

    -- of two stores to one piece the one of the later access is the later one
    pub last_kept : (o s : ℕ) → IsStore u o → IsStore u s → SameAddress u o s → rank (g o) ≤ rank (g s) → piece_rank o ≤ piece_rank s
    last_kept o s first second address low = elim (cases_eq (g o) (g s)) [
      | inl same ↦ (
          let one : at_spot o ≡ at_spot s = ap (spot t Share rank right bound below) same in
          let part_same = same_part o s address in
          rank_up o s (omega (arith, one)) (elim (cases_lt s o) [
            | inr up ↦ up
            | inl after ↦ absurd (elim (split.ordered s o (store_event u s second) (store_event u o first) after) [
              | inl less ↦ omega (arith, same, less)
              | inr (inl is) ↦ (let less = is.1 in omega (arith, part_same, less))
              | inr (inr swap) ↦ (let next = swap.0 in omega (arith, next, same))
            ])
          ])
          )
      | inr other ↦ (
          let apart : rank (g o) ≡ rank (g s) → ⊥ = λ same. other (right.apart (g o) (g s) (store_event t (g o) (store_there o first)) (store_event t (g s) (store_there s second)) same) in
          rank_less o s (store_event u o first) (spot-stores_less t Share rank right bound below (g o) (g s) (store_there o first) (store_there s second) (omega (arith, low, apart)))
          )
    ]

    -- the pieces meet the axioms, where loads read what they should
    pub split_ranks : u.setting.order ≡ t.setting.order → ((m n : ℕ) → SameAddress u m n → Share (g m) (g n)) → ((l : ℕ) → IsLoad u l → ReadsLast u piece_rank l) → IsModelRank u piece_rank
    split_ranks setting shared reads = record {
      apart = rank_apart;
      load_op = load_op_kept;
      store_store = λ m n first second earlier keeps. stores_kept m n first second earlier
          (λ before. right.store_store (g m) (g n) (store_there m first) (store_there n second) before
          (⊎_elim (λ model. inl (sym setting ∙ model)) (λ address. inr (shared m n address)) keeps));
      stbar = λ m n first second earlier fewer. stores_kept m n first second earlier
          (λ before. right.stbar (g m) (g n) (store_there m first) (store_there n second) before (stbars_there m n fewer));
      membar = membar_kept;
      swap = swap_kept;
      atomicity = atomicity_kept;
      value = reads;
    }

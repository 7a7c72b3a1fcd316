-- Which axioms are met at an event that has just been passed, by the events that are left.
use Rattle.std.proofs.Common.{◌≡◌, ◌≢◌, ◌⊎◌, ◌↔◌, ◌∙◌, inl, inr, ap, subst, refl, ℕ, suc, ◌<◌, ◌≤◌, Bool, true, false, IsTrue, Some, List, [], slice_index, arith}
use Rattle.std.proofs.lemmas.Bool.{cases_eq, cases_lt}
use Rattle.bitsets.specs.Rows.{HasNumber, IsMask}
use Rattle.bitsets.proofs.RowFacts.{HasNumber-none}
use Rattle.tso_ops.specs.Values.{TraceValue}
use Rattle.tso_ops.specs.declared.events.Event.{Event}
use Rattle.tso_ops.specs.Events.{event_at, IsEvent, IsEventOf, IsLoad, IsStore, IsStoreTo, IsSwapLoad, Earlier, KeepsStores, SameAddress, HasBarriersBefore, HasStbarsBefore, HasFewerBarriersBefore, HasFewerStbarsBefore}
use Rattle.tso_ops.proofs.NumberFacts.{event_unique, load_event, load_is_no_store, store_event}
use Rattle.tso_ops.proofs.ProcessorFacts.{bars_ascend, stbars_ascend}
use Rattle.tso_ops.proofs.SwapFacts.{IsSwapLoad-store}
use Rattle.tso_model.specs.Axioms.{place, IsUpTo}
use Rattle.tso_model.proofs.Places.{place_same}
use Rattle.order_check.specs.declared.faults.Axiom.TheVariants.{LoadOp, StoreStore, Stbar, Membar, Atomicity}
use Rattle.order_check.specs.declared.progress.Progress.{Progress}
use Rattle.order_check.specs.Refusals.{MeetsAt}
use Rattle.order_check.specs.Internal.Left.{IsLeftIn}
use Rattle.order_check.specs.Internal.Progress.{HasJustPassed}

-- an event is a load or a store
pub load_or_store : (t : TraceValue) (n : ℕ) → IsEvent t n → IsLoad t n ⊎ IsStore t n
load_or_store t n (e, at) = by_load e.load refl
  where
    by_load : (b : Bool) → e.load ≡ b → IsLoad t n ⊎ IsStore t n
    by_load true is = inl (e, at, is)
    by_load false is = inr (e, at, is)

-- ---- the processor of an event

pub own_of_earlier : (t : TraceValue) (u n : ℕ) (e : Event) → event_at t n ≡ Some e → Earlier t u n → IsEventOf t e.proc u
own_of_earlier t u n e at (d, f, at_d, at_f, same, less) = (d, at_d, same ∙ ap (λ (x : Event). x.proc) (event_unique t n f e at_f at))

pub earlier_of_own : (t : TraceValue) (u n : ℕ) (e : Event) → event_at t n ≡ Some e → u < n → IsEventOf t e.proc u → Earlier t u n
earlier_of_own t u n e at less (d, at_d, same) = (d, e, at_d, at, same, less)

-- ---- a search of the events that are left

module _ (t : TraceValue) (order : List ℕ) (n : ℕ) (progress : Progress) (passed : HasJustPassed t order n progress) where
  pub left_after : (u : ℕ) → HasNumber progress.left.items u → IsEvent t u × (place order n < place order u)
  left_after u has = let is = (passed.left u).0 has in (is.0, omega (arith, is.1))

  pub after_left : (u : ℕ) → IsEvent t u → place order n < place order u → HasNumber progress.left.items u
  after_left u event after = (passed.left u).1 (event, omega (arith, after))

  -- the events of a kind stand no later than the event exactly if those of them do that are left
  pub search_meets : (one two other : List ℕ) (Of : ℕ → Type 0) → IsEvent t n →
      ((u : ℕ) → Of u → IsEvent t u × (u < n) × HasNumber one u × HasNumber two u × (HasNumber other u → ⊥)) →
      ((u : ℕ) → IsEvent t u → u < n → HasNumber one u → HasNumber two u → (HasNumber other u → ⊥) → Of u) → (b : Bool) (most : ℕ) → most ≡ slice_index progress.places.items n →
      IsTrue b ↔ ((u : ℕ) → IsLeftIn progress.left.items one two other n u → slice_index progress.places.items u ≤ most) →
      IsTrue b ↔ ((u : ℕ) → Of u → IsUpTo order u n)
  search_meets one two other Of event rows of b most most_is search = (
    λ yes u is. (
        let in_rows = rows u is in
        elim (cases_lt (place order n) (place order u)) [
          | inl after ↦ absurd (
              let up_to = search.0 yes u (omega (arith, in_rows.1), after_left u in_rows.0 after, in_rows.2, in_rows.3, in_rows.4) in
              omega (arith, up_to, after, most_is, passed.places.at u in_rows.0, passed.places.at n event))
          | inr before ↦ omega (arith, before)
        ]),
    λ all. search.1 (λ u is. (
        let after = left_after u is.1 in
        let less : u < n = elim (cases_eq u n) [
          | inl same ↦ absurd (omega (arith, after.1, ap (place order) same))
          | inr differs ↦ omega (arith, is.0, differs)
        ] in
        let up_to = all u (of u after.0 less is.2 is.3 is.4) in
        absurd (omega (arith, up_to, after.1)))),
  )

  module _ (e : Event) (at : event_at t n ≡ Some e) (b : Bool) (own : List ℕ) (own_is : IsMask own (IsEventOf t e.proc)) (most : ℕ) (most_is : most ≡ slice_index progress.places.items n) where
    event : IsEvent t n
    event = (e, at)

    pub load_op_met : (stores : List ℕ) → IsMask stores (IsStore t) →
        IsTrue b ↔ ((u : ℕ) → IsLeftIn progress.left.items own own stores n u → slice_index progress.places.items u ≤ most) →
        IsTrue b ↔ MeetsAt t order LoadOp n
    load_op_met stores stores_are search =
        let met = search_meets own own stores (λ u. IsLoad t u × Earlier t u n) event
        (λ u is. (
        let mine = (own_is.bits u).1 (own_of_earlier t u n e at is.1) in
        (load_event t u is.0, is.1.5, mine, mine, λ store. load_is_no_store t u is.0 ((stores_are.bits u).0 store))))
        (λ u some less in_one in_two no_store. (
          elim (load_or_store t u some) [
            | inl load ↦ load
            | inr store ↦ absurd (no_store ((stores_are.bits u).1 store))
          ],
          earlier_of_own t u n e at less ((own_is.bits u).0 in_one),
        )) b most most_is search in
        (λ yes u load earlier. met.0 yes u (load, earlier), λ all. met.1 (λ u is. all u is.0 is.1))

    pub store_store_met : IsStore t n → (kept : List ℕ) → IsMask kept (λ u. IsStore t u × KeepsStores t u n) →
        IsTrue b ↔ ((u : ℕ) → IsLeftIn progress.left.items own kept [] n u → slice_index progress.places.items u ≤ most) →
        IsTrue b ↔ MeetsAt t order StoreStore n
    store_store_met store kept kept_are search =
        let met = search_meets own kept [] (λ u. IsStore t u × Earlier t u n × KeepsStores t u n) event
        (λ u is. (store_event t u is.0, is.1.5, (own_is.bits u).1 (own_of_earlier t u n e at is.1), (kept_are.bits u).1 (is.0, is.2), λ none. HasNumber-none u none))
        (λ u some less in_one in_two none. (
        let both = (kept_are.bits u).0 in_two in (both.0, earlier_of_own t u n e at less ((own_is.bits u).0 in_one), both.1))) b most most_is search in
        (λ yes u first second earlier keeps. met.0 yes u (first, earlier, keeps), λ all. met.1 (λ u is. all u is.0 store is.1 is.2))

    pub stbar_met : IsStore t n → (stores same : List ℕ) → IsMask stores (IsStore t) → IsMask same (HasStbarsBefore t e.stbars) →
        IsTrue b ↔ ((u : ℕ) → IsLeftIn progress.left.items own stores same n u → slice_index progress.places.items u ≤ most) →
        IsTrue b ↔ MeetsAt t order Stbar n
    stbar_met store stores same stores_are same_is search =
        let met = search_meets own stores same (λ u. IsStore t u × Earlier t u n × HasFewerStbarsBefore t u n) event
        (λ u is. (store_event t u is.0, is.1.5, (own_is.bits u).1 (own_of_earlier t u n e at is.1), (stores_are.bits u).1 is.0, λ as_many. fewer u is.2 ((same_is.bits u).0 as_many)))
        (λ u some less in_one in_two not_same. (
        let earlier = earlier_of_own t u n e at less ((own_is.bits u).0 in_one) in
        ((stores_are.bits u).0 in_two, earlier, more u earlier (λ as_many. not_same ((same_is.bits u).1 as_many))))) b most most_is search in
        (λ yes u first second earlier less. met.0 yes u (first, earlier, less), λ all. met.1 (λ u is. all u is.0 store is.1 is.2))
      where
        fewer : (u : ℕ) → HasFewerStbarsBefore t u n → HasStbarsBefore t e.stbars u → ⊥
        fewer u (d, f, at_d, at_f, less) (g, at_g, as_many) =
            omega (arith, less, as_many, ap (λ (x : Event). x.stbars) (event_unique t u d g at_d at_g), ap (λ (x : Event). x.stbars) (event_unique t n f e at_f at))

        more : (u : ℕ) → Earlier t u n → (HasStbarsBefore t e.stbars u → ⊥) → HasFewerStbarsBefore t u n
        more u (d, f, at_d, at_f, same_proc, less) other =
            let up = stbars_ascend t u n d f at_d at_f same_proc less in
            let one = ap (λ (x : Event). x.stbars) (event_unique t n f e at_f at) in
            (d, f, at_d, at_f, elim (cases_eq d.stbars e.stbars) [ inl equal ↦ absurd (other (d, at_d, equal)) | inr differs ↦ omega (arith, up, one, differs) ])

    pub membar_met : IsLoad t n → (stores same : List ℕ) → IsMask stores (IsStore t) → IsMask same (HasBarriersBefore t e.bars) →
        IsTrue b ↔ ((u : ℕ) → IsLeftIn progress.left.items own stores same n u → slice_index progress.places.items u ≤ most) →
        IsTrue b ↔ MeetsAt t order Membar n
    membar_met load stores same stores_are same_is search =
        let met = search_meets own stores same (λ u. IsStore t u × Earlier t u n × HasFewerBarriersBefore t u n) event
        (λ u is. (store_event t u is.0, is.1.5, (own_is.bits u).1 (own_of_earlier t u n e at is.1), (stores_are.bits u).1 is.0, λ as_many. fewer u is.2 ((same_is.bits u).0 as_many)))
        (λ u some less in_one in_two not_same. (
        let earlier = earlier_of_own t u n e at less ((own_is.bits u).0 in_one) in
        ((stores_are.bits u).0 in_two, earlier, more u earlier (λ as_many. not_same ((same_is.bits u).1 as_many))))) b most most_is search in
        (λ yes u first second earlier less. met.0 yes u (first, earlier, less), λ all. met.1 (λ u is. all u is.0 load is.1 is.2))
      where
        fewer : (u : ℕ) → HasFewerBarriersBefore t u n → HasBarriersBefore t e.bars u → ⊥
        fewer u (d, f, at_d, at_f, less) (g, at_g, as_many) =
            omega (arith, less, as_many, ap (λ (x : Event). x.bars) (event_unique t u d g at_d at_g), ap (λ (x : Event). x.bars) (event_unique t n f e at_f at))

        more : (u : ℕ) → Earlier t u n → (HasBarriersBefore t e.bars u → ⊥) → HasFewerBarriersBefore t u n
        more u (d, f, at_d, at_f, same_proc, less) other =
            let up = bars_ascend t u n d f at_d at_f same_proc less in
            let one = ap (λ (x : Event). x.bars) (event_unique t n f e at_f at) in
            (d, f, at_d, at_f, elim (cases_eq d.bars e.bars) [ inl equal ↦ absurd (other (d, at_d, equal)) | inr differs ↦ omega (arith, up, one, differs) ])

  -- no swap is open exactly if Atomicity is met at a store
  pub atomicity_met : IsStore t n → (b : Bool) →
      IsTrue b ↔ ((l : ℕ) → IsSwapLoad t l → (HasNumber progress.left.items l → ⊥) → HasNumber progress.left.items (suc l) → ⊥) → IsTrue b ↔ MeetsAt t order Atomicity n
  atomicity_met store b search = (
    λ yes l swap is_store other. (elim (cases_lt (place order l) (place order n)) [
      | inl passed_load ↦ inr (elim (cases_lt (place order n) (place order (suc l))) [
        | inl open_store ↦ absurd (search.0 yes l swap
            (λ has. (let after = left_after l has in omega (arith, after.1, passed_load)))
            (after_left (suc l) (store_event t (suc l) (IsSwapLoad-store t l swap)) open_store))
        | inr closed ↦ omega (arith, closed)
      ])
      | inr later ↦ inl (omega (arith, later))
    ]),
    λ met. search.1 (λ l swap not_left left_store. (
        let after = left_after (suc l) left_store in
        let load : IsLoad t l = (swap.0, swap.1, swap.2) in
        let before : place order l ≤ place order n = elim (cases_lt (place order n) (place order l)) [
          | inl later ↦ absurd (not_left (after_left l (swap.0, swap.1) later))
          | inr up_to ↦ omega (arith, up_to)
        ] in
        let apart : n ≢ suc l = λ same. omega (arith, after.1, ap (place order) same) in
        elim (met l swap store apart) [
          | inl up_to ↦ (
              let same : place order n ≡ place order l = omega (arith, up_to, before) in
              let once = passed.places.memory_order.once l (swap.0, swap.1) in
              load_is_no_store t l load (subst (IsStore t) (place_same order n l (omega (arith, once)) same) store))
          | inr closed ↦ omega (arith, after.1, closed)
        ])),
  )

-- ---- what asks nothing of the event

-- at a load nothing is asked of stores
pub load_meets_store_store : (t : TraceValue) (order : List ℕ) (n : ℕ) → IsLoad t n → MeetsAt t order StoreStore n
load_meets_store_store t order n load u first second earlier keeps = absurd (load_is_no_store t n load second)

pub load_meets_stbar : (t : TraceValue) (order : List ℕ) (n : ℕ) → IsLoad t n → MeetsAt t order Stbar n
load_meets_stbar t order n load u first second earlier fewer = absurd (load_is_no_store t n load second)

pub load_meets_atomicity : (t : TraceValue) (order : List ℕ) (n : ℕ) → IsLoad t n → MeetsAt t order Atomicity n
load_meets_atomicity t order n load l swap store other = absurd (load_is_no_store t n load store)

-- and at a store nothing of loads
pub store_meets_membar : (t : TraceValue) (order : List ℕ) (n : ℕ) → IsStore t n → MeetsAt t order Membar n
store_meets_membar t order n store u first second earlier fewer = absurd (load_is_no_store t n second store)

-- a store to an event's address
pub to_address : (t : TraceValue) (n : ℕ) (e : Event) → event_at t n ≡ Some e → (u : ℕ) → IsStore t u → SameAddress t u n → IsStoreTo t e.a u
to_address t n e at u (d, at_d, store) (f, g, at_f, at_g, same) =
    (d, at_d, store, ap (λ (x : Event). x.a) (event_unique t u d f at_d at_f) ∙ same ∙ ap (λ (x : Event). x.a) (event_unique t n g e at_g at))

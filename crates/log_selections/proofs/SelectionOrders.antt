-- An order of a log, restricted to the origins of a selection's events, is one of the selection.
use Rattle.std.proofs.Common.{◌≡◌, ◌≢◌, ◌⊎◌, ◌↔◌, ℕ, zero, suc, Bool, true, false, List, inl, inr, ⊎_elim, refl, sym, subst, ◌∙◌, arith}
use Rattle.std.proofs.lemmas.Bool.{cases_eq}
use Rattle.order_paths.proofs.Decisions.{Decision-iff, Decision-both, Decision-some}
use Rattle.tso_ops.specs.Values.{TraceValue}
use Rattle.tso_ops.specs.Events.{event_total, IsEvent, IsLoad, IsStore, IsSwapLoad, Earlier, KeepsStores, HasSource}
use Rattle.tso_ops.proofs.NumberFacts.{IsEvent-within, event_above_zero, load_event, store_event}
use Rattle.tso_ops.proofs.SwapFacts.{IsSwapLoad-store}
use Rattle.tso_model.specs.Axioms.{IsUpTo, IsVisible, ReadsGreatest, IsMemoryOrder, IsModelOrder, IsConsistent}
use Rattle.tso_model.proofs.Decided.{IsEvent-decided}
use Rattle.log_selections.specs.Selections.{IsSelectionBy, IsSelection}
use Rattle.log_selections.specs.Sources.{IsOnlySource}
use Rattle.log_selections.proofs.KnownSources.{ReadsFrom, reads_only}
use Rattle.log_selections.proofs.Restriction.{HasOrigins, restriction, restriction-kept, restriction-others, restriction-up_to}

-- what reads from a store sees it as the last
pub reads_store : (t : TraceValue) (order : List ℕ) (l s : ℕ) → IsStore t s → ReadsFrom t order l s →
    IsVisible t order s l × ((other : ℕ) → IsVisible t order other l → IsUpTo order other s)
reads_store t order l zero store reads = let above = event_above_zero t 0 (store_event t 0 store) in absurd (omega arith)
reads_store t order l (suc k) store reads = reads

module _ (log t : TraceValue) (origin : ℕ → ℕ) (selection : IsSelectionBy log t origin) where
  -- the events of the trace have origins of their own
  pub origins : HasOrigins (IsEvent t) origin
  origins = record {
    once = selection.once;
    decided = λ x.
        Decision-iff (λ p. (p.0, p.1.0, p.1.1)) (λ p. (p.0, (p.1, p.2)))
        (Decision-some (λ n. IsEvent t n × (origin n ≡ x)) (λ n. Decision-both (IsEvent-decided t n) (cases_eq (origin n) x))
        (suc (event_total t)) (λ n p. IsEvent-within t n p.0));
  }

  -- an event of the trace has one of the log for its origin
  pub origin_event : (n : ℕ) → IsEvent t n → IsEvent log (origin n)
  origin_event n event = by_kind event.0.load refl
    where
      by_kind : (load : Bool) → event.0.load ≡ load → IsEvent log (origin n)
      by_kind true is = load_event log (origin n) (selection.load n (event.0, event.1, is))
      by_kind false is = store_event log (origin n) (selection.store n (event.0, event.1, is))

  -- what the trace's memory model keeps the log's does
  pub keeps_stores : (u v : ℕ) → IsEvent t u → IsEvent t v → KeepsStores t u v → KeepsStores log (origin u) (origin v)
  keeps_stores u v event_u event_v keeps =
      ⊎_elim (λ tso. inl (sym selection.model ∙ tso)) (λ address. inr ((selection.addresses u v event_u event_v).0 address)) keeps

module _ (log t : TraceValue) (origin : ℕ → ℕ) (selection : IsSelectionBy log t origin) (order : List ℕ) (right : IsModelOrder log order) where
  -- the order of the selected events
  abbrev pub selected_order : List ℕ
  selected_order = restriction (IsEvent t) origin (origins log t origin selection) order

  -- events stand in it as their origins stand in the log's order
  alike : (u v : ℕ) → IsEvent t u → IsEvent t v → IsUpTo selected_order u v ↔ IsUpTo order (origin u) (origin v)
  alike = restriction-up_to (IsEvent t) origin (origins log t origin selection) order

  -- it has each event of the trace once and nothing else
  selected_memory_order : IsMemoryOrder t selected_order
  selected_memory_order = record {
    once = λ n event.
        restriction-kept (IsEvent t) origin (origins log t origin selection) order n event
        ∙ right.memory_order.once (origin n) (origin_event log t origin selection n event);
    events = restriction-others (IsEvent t) origin (origins log t origin selection) order;
  }

  -- two events of one processor have origins in the same order there
  earlier_origins : (u v : ℕ) → Earlier t u v → Earlier log (origin u) (origin v)
  earlier_origins u v earlier = (selection.program_order u v (earlier.0, earlier.2) (earlier.1, earlier.3)).0 earlier

  -- they stand in program order where the log's order has their origins so
  in_order : (u v : ℕ) → Earlier t u v → IsUpTo order (origin u) (origin v) → IsUpTo selected_order u v
  in_order u v earlier up_to = (alike u v (earlier.0, earlier.2) (earlier.1, earlier.3)).1 up_to

  -- a load sees a store exactly where the load's origin sees the store's
  visible_origin : (s l : ℕ) → IsEvent t l → IsVisible t selected_order s l → IsVisible log order (origin s) (origin l)
  visible_origin s l load (store, address, seen) =
      let event = store_event t s store in (
        selection.store s store,
        (selection.addresses s l event load).0 address,
        ⊎_elim (λ up_to. inl ((alike s l event load).0 up_to)) (λ earlier. inr ((selection.program_order s l event load).0 earlier)) seen,
      )

  visible_here : (s l : ℕ) → IsStore t s → IsEvent t l → IsVisible log order (origin s) (origin l) → IsVisible t selected_order s l
  visible_here s l store load (origin_store, address, seen) =
      let event = store_event t s store in (
        store,
        (selection.addresses s l event load).1 address,
        ⊎_elim (λ up_to. inl ((alike s l event load).1 up_to)) (λ earlier. inr ((selection.program_order s l event load).1 earlier)) seen,
      )

  -- Value: the store that the load's origin read is the last that it sees, and it is selected
  selected_value : (l : ℕ) → IsLoad t l → ReadsGreatest t selected_order l
  selected_value l load = by_source (selection.source l load)
    where
      event : IsEvent t l
      event = load_event t l load

      reads : (s : ℕ) → IsOnlySource log (origin l) s → ReadsFrom log order (origin l) s
      reads s only = reads_only log order right (origin l) s (selection.load l load) only

      by_source : (s : ℕ) × HasSource t l s × IsOnlySource log (origin l) (origin s) → ReadsGreatest t selected_order l
      by_source (zero, source, is) = inl (source.1, λ s seen. subst (ReadsFrom log order (origin l)) selection.init (reads (origin 0) is) (origin s) (visible_origin s l event seen))
      by_source (suc k, source, is) =
          let store : IsStore t (suc k) = source.1 in
          let last = reads_store log order (origin l) (origin (suc k)) (selection.store (suc k) store) (reads (origin (suc k)) is) in
          inr (
            suc k,
            visible_here (suc k) l store event last.0,
            source.3,
            λ other seen. (alike other (suc k) (store_event t other seen.0) (store_event t (suc k) store)).1 (last.1 (origin other) (visible_origin other l event seen)),
          )

  -- the store of a swap stands after its load
  selected_swap : (l : ℕ) → IsSwapLoad t l → IsUpTo selected_order l (suc l)
  selected_swap l swap =
      let origin_swap = selection.swap l swap in
      (alike l (suc l) (swap.0, swap.1) (store_event t (suc l) (IsSwapLoad-store t l swap))).1
      (subst (IsUpTo order (origin l)) (sym origin_swap.1) (right.swap (origin l) origin_swap.0))

  -- and no other store stands between them
  selected_atomicity : (l s : ℕ) → IsSwapLoad t l → IsStore t s → s ≢ suc l → IsUpTo selected_order s l ⊎ IsUpTo selected_order (suc l) s
  selected_atomicity l s swap store other =
      let origin_swap = selection.swap l swap in
      let event = store_event t s store in
      let swap_store = store_event t (suc l) (IsSwapLoad-store t l swap) in
      let apart : origin s ≢ suc (origin l) = λ same. other (selection.once s (suc l) event swap_store (same ∙ sym origin_swap.1)) in
      ⊎_elim
      (λ before. inl ((alike s l event (swap.0, swap.1)).1 before))
      (λ after. inr ((alike (suc l) s swap_store event).1 (subst (λ n. IsUpTo order n (origin s)) (sym origin_swap.1) after)))
      (right.atomicity (origin l) (origin s) origin_swap.0 (selection.store s store) apart)

  -- the selected events' order is one of the trace
  pub selected_model_order : IsModelOrder t selected_order
  selected_model_order = record {
    memory_order = selected_memory_order;
    load_op = λ u v load earlier.
        in_order u v earlier (right.load_op (origin u) (origin v) (selection.load u load) (earlier_origins u v earlier));
    store_store = λ u v first second earlier keeps.
        in_order u v earlier
        (right.store_store (origin u) (origin v) (selection.store u first) (selection.store v second) (earlier_origins u v earlier)
        (keeps_stores log t origin selection u v (store_event t u first) (store_event t v second) keeps));
    stbar = λ u v first second earlier fewer.
        in_order u v earlier
        (right.stbar (origin u) (origin v) (selection.store u first) (selection.store v second) (earlier_origins u v earlier) (selection.stbars u v earlier fewer));
    membar = λ u v store load earlier fewer.
        in_order u v earlier
        (right.membar (origin u) (origin v) (selection.store u store) (selection.load v load) (earlier_origins u v earlier) (selection.barriers u v earlier fewer));
    swap = selected_swap;
    atomicity = selected_atomicity;
    value = selected_value;
  }

-- a selection of a log that has an order has one
pub selection_keeps_orders : (log t : TraceValue) → IsSelection log t → IsConsistent log → IsConsistent t
selection_keeps_orders log t selection right =
    (selected_order log t selection.0 selection.1 right.0 right.1, selected_model_order log t selection.0 selection.1 right.0 right.1)

-- where a selection has no order, the log has none
pub selection_violation : (log t : TraceValue) → IsSelection log t → (IsConsistent t → ⊥) → IsConsistent log → ⊥
selection_violation log t selection none right = none (selection_keeps_orders log t selection right)

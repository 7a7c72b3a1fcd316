-- What the axioms of program order ask of an event, by greatest places.
use Rattle.std.proofs.Common.{◌≡◌, ◌∙◌, inl, inr, sym, ap, subst, ℕ, suc, ◌<◌, ◌≤◌, Some, List, slice_index, arith}
use Rattle.std.proofs.lemmas.Bool.{cases_eq}
use Rattle.tso_ops.specs.Values.{TraceValue}
use Rattle.tso_ops.specs.declared.events.Event.{Event}
use Rattle.tso_ops.specs.Events.{event_at, Earlier, IsEvent, IsLoad, IsStore, HasFewerBarriersBefore, HasFewerStbarsBefore, KeepsStores}
use Rattle.tso_ops.specs.declared.settings.Order.TheVariants.{Tso, Pso}
use Rattle.tso_ops.proofs.NumberFacts.{event_unique}
use Rattle.tso_model.specs.Axioms.{IsUpTo}
use Rattle.order_check.specs.declared.faults.Axiom.{Axiom}
use Rattle.order_check.specs.declared.faults.Axiom.TheVariants.{LoadOp, StoreStore, Stbar, Membar, Atomicity, Value}
use Rattle.order_check.specs.Refusals.{axiom_number, IsFirstUnmet, MeetsAt}
use Rattle.order_check.specs.Internal.Places.{ArePlaces}
use Rattle.order_check.proofs.MetFacts.{load_meets_stbar, load_meets_store_store, store_meets_membar}
use Rattle.log_order_check.specs.declared.faults.Bounds.{Bounds}
use Rattle.log_order_check.specs.declared.passed.Passed.{Passed}
use Rattle.log_order_check.specs.Internal.Bounds.{AreBounds}
use Rattle.log_order_check.specs.Internal.Most.{IsMost}
use Rattle.log_order_check.specs.Internal.Passed.{IsLoadUpTo, IsPassed, IsStoreUpTo, IsStoreBefore}
use Rattle.log_order_check.specs.Internal.Tables.{IsOwnStore, IsOfProgram}
use Rattle.log_order_check.proofs.MostFacts.{most_same, most_within}

-- ---- the events of a processor before its next one

module _ (t : TraceValue) (x : ℕ) (e : Event) (at : event_at t (suc x) ≡ Some e) where
  -- the later event of a pair is this one
  this : (f : Event) → event_at t (suc x) ≡ Some f → f ≡ e
  this f at_f = event_unique t (suc x) f e at_f at

  pub load_before : (u : ℕ) → IsLoadUpTo t x e.proc u → IsLoad t u × Earlier t u (suc x)
  load_before u (within, (d, at_d, (load, same))) = ((d, at_d, load), (d, e, at_d, at, same, omega (arith, within)))

  pub before_load : (u : ℕ) → IsLoad t u × Earlier t u (suc x) → IsLoadUpTo t x e.proc u
  before_load u ((d, at_d, load), (c, f, at_c, at_f, same, less)) =
      (omega (arith, less), (d, at_d, (load, ap (λ (y : Event). y.proc) (event_unique t u d c at_d at_c) ∙ same ∙ ap (λ (y : Event). y.proc) (this f at_f))))

  pub store_before : (u : ℕ) → IsStoreUpTo t x e.proc u → IsStore t u × Earlier t u (suc x)
  store_before u (within, (d, at_d, (store, same))) = ((d, at_d, store), (d, e, at_d, at, same, omega (arith, within)))

  pub before_store : (u : ℕ) → IsStore t u × Earlier t u (suc x) → IsStoreUpTo t x e.proc u
  before_store u ((d, at_d, store), (c, f, at_c, at_f, same, less)) =
      (omega (arith, less), (d, at_d, (store, ap (λ (y : Event). y.proc) (event_unique t u d c at_d at_c) ∙ same ∙ ap (λ (y : Event). y.proc) (this f at_f))))

  pub stbar_before : (u : ℕ) → IsStoreBefore t (λ (d : Event). d.stbars) e.stbars (suc x) e.proc u → IsStore t u × Earlier t u (suc x) × HasFewerStbarsBefore t u (suc x)
  stbar_before u (within, (d, at_d, (store, same, fewer))) =
      let other : u < suc x = elim (cases_eq u (suc x)) [
        | inl equal ↦ absurd (omega (arith, fewer, ap (λ (y : Event). y.stbars) (this d (subst (λ v. event_at t v ≡ Some d) equal at_d))))
        | inr apart ↦ omega (arith, within, apart)
      ] in
      ((d, at_d, store), (d, e, at_d, at, same, other), (d, e, at_d, at, fewer))

  pub before_stbar : (u : ℕ) → IsStore t u × Earlier t u (suc x) × HasFewerStbarsBefore t u (suc x) → IsStoreBefore t (λ (d : Event). d.stbars) e.stbars (suc x) e.proc u
  before_stbar u ((d, at_d, store), (c, f, at_c, at_f, same, less), (b, g, at_b, at_g, fewer)) = (
    omega (arith, less),
    (
      d,
      at_d,
      (
        store,
        ap (λ (y : Event). y.proc) (event_unique t u d c at_d at_c) ∙ same ∙ ap (λ (y : Event). y.proc) (this f at_f),
        omega (arith, fewer, ap (λ (y : Event). y.stbars) (event_unique t u d b at_d at_b), ap (λ (y : Event). y.stbars) (this g at_g)),
      ),
    ),
  )

  pub barrier_before : (u : ℕ) → IsStoreBefore t (λ (d : Event). d.bars) e.bars (suc x) e.proc u → IsStore t u × Earlier t u (suc x) × HasFewerBarriersBefore t u (suc x)
  barrier_before u (within, (d, at_d, (store, same, fewer))) =
      let other : u < suc x = elim (cases_eq u (suc x)) [
        | inl equal ↦ absurd (omega (arith, fewer, ap (λ (y : Event). y.bars) (this d (subst (λ v. event_at t v ≡ Some d) equal at_d))))
        | inr apart ↦ omega (arith, within, apart)
      ] in
      ((d, at_d, store), (d, e, at_d, at, same, other), (d, e, at_d, at, fewer))

  pub before_barrier : (u : ℕ) → IsStore t u × Earlier t u (suc x) × HasFewerBarriersBefore t u (suc x) → IsStoreBefore t (λ (d : Event). d.bars) e.bars (suc x) e.proc u
  before_barrier u ((d, at_d, store), (c, f, at_c, at_f, same, less), (b, g, at_b, at_g, fewer)) = (
    omega (arith, less),
    (
      d,
      at_d,
      (
        store,
        ap (λ (y : Event). y.proc) (event_unique t u d c at_d at_c) ∙ same ∙ ap (λ (y : Event). y.proc) (this f at_f),
        omega (arith, fewer, ap (λ (y : Event). y.bars) (event_unique t u d b at_d at_b), ap (λ (y : Event). y.bars) (this g at_g)),
      ),
    ),
  )

  -- ---- the bounds of the next event

  -- the fence after it counts the barriers before it
  module _ (places : List ℕ) (before after : Passed) (own : ℕ) (is_before : IsPassed t places x e.proc before) (is_after : IsPassed t places (suc x) e.proc after)
      (stbars : after.stbars.count ≡ e.stbars) (barriers : after.barriers.count ≡ e.bars) where
    bounds_with : (kept : ℕ) → IsMost (λ u. IsStore t u × Earlier t u (suc x) × KeepsStores t u (suc x)) places kept →
        AreBounds t places (suc x) (record { loads = before.loads; kept = kept; stbar = after.stbars.before; barrier = after.barriers.before })
    bounds_with kept is_kept = record {
      loads = most_same _ _ places before.loads load_before before_load is_before.loads;
      kept = is_kept;
      stbar = most_same _ _ places after.stbars.before stbar_before before_stbar
          (subst (λ n. IsMost (IsStoreBefore t (λ (d : Event). d.stbars) n (suc x) e.proc) places after.stbars.before) stbars is_after.stbars.before);
      barrier = most_same _ _ places after.barriers.before barrier_before before_barrier
          (subst (λ n. IsMost (IsStoreBefore t (λ (d : Event). d.bars) n (suc x) e.proc) places after.barriers.before) barriers is_after.barriers.before);
    }

    pub bounds_tso : t.setting.order ≡ Tso → AreBounds t places (suc x) (record { loads = before.loads; kept = before.stores; stbar = after.stbars.before; barrier = after.barriers.before })
    bounds_tso tso = bounds_with before.stores (most_same _ _ places before.stores
        (λ u is. (let both = store_before u is in (both.0, both.1, inl tso))) (λ u is. before_store u (is.0, is.1)) is_before.stores)

    pub bounds_pso : t.setting.order ≡ Pso → IsMost (IsOwnStore t (suc x)) places own →
        AreBounds t places (suc x) (record { loads = before.loads; kept = own; stbar = after.stbars.before; barrier = after.barriers.before })
    bounds_pso pso is_own = bounds_with own (most_same _ _ places own
        (λ u is. (is.0, is.1, inr is.2))
        (λ u is. (is.0, is.1, elim is.2 [ inl tso ↦ (let clash : Pso ≡ Tso = sym pso ∙ tso in absurd cc) | inr same ↦ same ])) is_own)

-- ---- which axiom isn't met

module _ (t : TraceValue) (order places : List ℕ) (n place_n : ℕ) (e : Event) (at : event_at t n ≡ Some e) (are : ArePlaces t order places) (is_place : place_n ≡ slice_index places n)
    (bounds : Bounds) (is : AreBounds t places n bounds) where
  -- numbers up to the event's place are up to the event
  up_to : (u : ℕ) → IsEvent t u → slice_index places u ≤ place_n → IsUpTo order u n
  up_to u event low = omega (arith, low, is_place, are.at u event, are.at n (e, at))

  from_up_to : (u : ℕ) → IsEvent t u → IsUpTo order u n → slice_index places u ≤ place_n
  from_up_to u event low = omega (arith, low, is_place, are.at u event, are.at n (e, at))

  pub met_load_op : bounds.loads ≤ place_n → MeetsAt t order LoadOp n
  met_load_op low u load earlier = up_to u (load.0, load.1) (omega (arith, low, is.loads.most u (load, earlier)))

  pub unmet_load_op : place_n < bounds.loads → IsFirstUnmet t order n LoadOp
  unmet_load_op past = record {
    unmet = λ met. (let low = most_within _ places bounds.loads place_n is.loads (λ u has. from_up_to u (has.0.0, has.0.1) (met u has.0 has.1)) in omega (arith, past, low));
    lesser = λ other less. absurd (omega (arith, less));
  }

  met_store_store : bounds.kept ≤ place_n → MeetsAt t order StoreStore n
  met_store_store low u first second earlier keeps = up_to u (first.0, first.1) (omega (arith, low, is.kept.most u (first, earlier, keeps)))

  met_stbar : bounds.stbar ≤ place_n → MeetsAt t order Stbar n
  met_stbar low u first second earlier fewer = up_to u (first.0, first.1) (omega (arith, low, is.stbar.most u (first, earlier, fewer)))

  met_membar : bounds.barrier ≤ place_n → MeetsAt t order Membar n
  met_membar low u first second earlier fewer = up_to u (first.0, first.1) (omega (arith, low, is.barrier.most u (first, earlier, fewer)))

  module _ (loads : bounds.loads ≤ place_n) where
    pub unmet_store_store : IsStore t n → place_n < bounds.kept → IsFirstUnmet t order n StoreStore
    unmet_store_store store past = record {
      unmet = λ met. (let low = most_within _ places bounds.kept place_n is.kept (λ u has. from_up_to u (has.0.0, has.0.1) (met u has.0 store has.1 has.2)) in omega (arith, past, low));
      lesser = lesser;
    }
      where
        lesser : (other : Axiom) → axiom_number other < 1 → MeetsAt t order other n
        lesser LoadOp less = met_load_op loads
        lesser StoreStore less = absurd (omega (arith, less))
        lesser Stbar less = absurd (omega (arith, less))
        lesser Membar less = absurd (omega (arith, less))
        lesser Atomicity less = absurd (omega (arith, less))
        lesser Value less = absurd (omega (arith, less))

    pub unmet_stbar : IsStore t n → bounds.kept ≤ place_n → place_n < bounds.stbar → IsFirstUnmet t order n Stbar
    unmet_stbar store kept past = record {
      unmet = λ met. (let low = most_within _ places bounds.stbar place_n is.stbar (λ u has. from_up_to u (has.0.0, has.0.1) (met u has.0 store has.1 has.2)) in omega (arith, past, low));
      lesser = lesser;
    }
      where
        lesser : (other : Axiom) → axiom_number other < 2 → MeetsAt t order other n
        lesser LoadOp less = met_load_op loads
        lesser StoreStore less = met_store_store kept
        lesser Stbar less = absurd (omega (arith, less))
        lesser Membar less = absurd (omega (arith, less))
        lesser Atomicity less = absurd (omega (arith, less))
        lesser Value less = absurd (omega (arith, less))

    pub unmet_membar : IsLoad t n → place_n < bounds.barrier → IsFirstUnmet t order n Membar
    unmet_membar load past = record {
      unmet = λ met. (let low = most_within _ places bounds.barrier place_n is.barrier (λ u has. from_up_to u (has.0.0, has.0.1) (met u has.0 load has.1 has.2)) in omega (arith, past, low));
      lesser = lesser;
    }
      where
        lesser : (other : Axiom) → axiom_number other < 3 → MeetsAt t order other n
        lesser LoadOp less = met_load_op loads
        lesser StoreStore less = load_meets_store_store t order n load
        lesser Stbar less = load_meets_stbar t order n load
        lesser Membar less = absurd (omega (arith, less))
        lesser Atomicity less = absurd (omega (arith, less))
        lesser Value less = absurd (omega (arith, less))

    pub met_load : IsLoad t n → bounds.barrier ≤ place_n → (law : Axiom) → IsOfProgram law → MeetsAt t order law n
    met_load load low LoadOp of = met_load_op loads
    met_load load low StoreStore of = load_meets_store_store t order n load
    met_load load low Stbar of = load_meets_stbar t order n load
    met_load load low Membar of = met_membar low
    met_load load low Atomicity of = absurd (omega (arith, of))
    met_load load low Value of = absurd (omega (arith, of))

    pub met_store : IsStore t n → bounds.kept ≤ place_n → bounds.stbar ≤ place_n → (law : Axiom) → IsOfProgram law → MeetsAt t order law n
    met_store store kept stbar LoadOp of = met_load_op loads
    met_store store kept stbar StoreStore of = met_store_store kept
    met_store store kept stbar Stbar of = met_stbar stbar
    met_store store kept stbar Membar of = store_meets_membar t order n store
    met_store store kept stbar Atomicity of = absurd (omega (arith, of))
    met_store store kept stbar Value of = absurd (omega (arith, of))

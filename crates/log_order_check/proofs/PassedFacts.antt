-- What is known of a processor's events, with one event more.
use Rattle.std.proofs.Common.{◌≡◌, ◌⊎◌, ◌∙◌, inl, inr, sym, subst, refl, ℕ, suc, ◌≤◌, IsTrue, IsFalse, Some, List, slice_index, max, arith}
use Rattle.std.proofs.lemmas.Bool.{cases_eq, false≢true}
use Rattle.tso_ops.specs.Values.{TraceValue}
use Rattle.tso_ops.specs.declared.events.Event.{Event}
use Rattle.tso_ops.specs.Events.{event_at}
use Rattle.tso_ops.proofs.NumberFacts.{event_unique}
use Rattle.tso_ops.proofs.ProcessorFacts.{bars_ascend, stbars_ascend}
use Rattle.log_order_check.specs.declared.passed.Fence.{Fence}
use Rattle.log_order_check.specs.declared.passed.Passed.{Passed}
use Rattle.log_order_check.specs.Internal.Most.{IsMost}
use Rattle.log_order_check.specs.Internal.Passed.{IsFence, IsOneUpTo, IsLoadUpTo, IsPassed, IsStoreUpTo}
use Rattle.log_order_check.proofs.MostFacts.{most_more, most_same}

module _ (t : TraceValue) (places : List ℕ) (x : ℕ) (e : Event) (at : event_at t (suc x) ≡ Some e) where
  -- of a property of events, the numbers up to the next one are those up to now and that one
  up_to_now : (P : Event → Type 0) (u : ℕ) → IsOneUpTo t (suc x) P u → IsOneUpTo t x P u ⊎ ((u ≡ suc x) × P e)
  up_to_now P u (within, (d, at_d, has)) = elim (cases_eq u (suc x)) [
    | inl same ↦ inr (same, subst P (event_unique t (suc x) d e (subst (λ v. event_at t v ≡ Some d) same at_d) at) has)
    | inr other ↦ inl (omega (arith, within, other), (d, at_d, has))
  ]

  pub most_kept : (P : Event → Type 0) (m : ℕ) → (P e → ⊥) → IsMost (IsOneUpTo t x P) places m →
      IsMost (IsOneUpTo t (suc x) P) places m
  most_kept P m none is = most_same _ _ places m
      (λ u has. (omega (arith, has.0), has.1))
      (λ u has. elim (up_to_now P u has) [ inl before ↦ before | inr here ↦ absurd (none here.1) ]) is

  pub most_met : (P : Event → Type 0) (m place : ℕ) → place ≡ slice_index places (suc x) → P e → IsMost (IsOneUpTo t x P) places m →
      IsMost (IsOneUpTo t (suc x) P) places (max m place)
  most_met P m place is_place has is = most_more _ _ places m (suc x) place is_place
      (λ u before. (omega (arith, before.0), before.1))
      (omega arith, (e, at, has))
      (λ u up_to. elim (up_to_now P u up_to) [ inl before ↦ inl before | inr here ↦ inr here.0 ]) is

-- ---- a processor's next event

module _ (t : TraceValue) (x : ℕ) (e : Event) (at : event_at t (suc x) ≡ Some e) where
  pub stbars_up : (u : ℕ) (d : Event) → event_at t u ≡ Some d → d.proc ≡ e.proc → u ≤ x → d.stbars ≤ e.stbars
  stbars_up u d at_d same within = stbars_ascend t u (suc x) d e at_d at same (omega (arith, within))

  pub bars_up : (u : ℕ) (d : Event) → event_at t u ≡ Some d → d.proc ≡ e.proc → u ≤ x → d.bars ≤ e.bars
  bars_up u d at_d same within = bars_ascend t u (suc x) d e at_d at same (omega (arith, within))

module _ (t : TraceValue) (places : List ℕ) (x place : ℕ) (e : Event) (at : event_at t (suc x) ≡ Some e) (is_place : place ≡ slice_index places (suc x))
    (old : Passed) (stbars barriers : Fence) (before : IsPassed t places x e.proc old)
    (is_stbars : IsFence t places (λ (d : Event). d.stbars) (suc x) e.proc stbars)
    (is_barriers : IsFence t places (λ (d : Event). d.bars) (suc x) e.proc barriers) where
  pub passed_load : (loads : ℕ) → IsTrue e.load → loads ≡ max old.loads place →
      IsPassed t places (suc x) e.proc (record { loads = loads; stores = old.stores; stbars = stbars; barriers = barriers })
  passed_load loads load is_loads = record {
    loads = subst (IsMost (IsLoadUpTo t (suc x) e.proc) places) (sym is_loads)
        (most_met t places x e at (λ (d : Event). IsTrue d.load × (d.proc ≡ e.proc)) old.loads place is_place (load, refl) before.loads);
    stores = most_kept t places x e at (λ (d : Event). IsFalse d.load × (d.proc ≡ e.proc)) old.stores (λ store. false≢true (sym store.0 ∙ load)) before.stores;
    stbars = is_stbars;
    barriers = is_barriers;
  }

  pub passed_store : (stores : ℕ) → IsFalse e.load → stores ≡ max old.stores place →
      IsPassed t places (suc x) e.proc (record { loads = old.loads; stores = stores; stbars = stbars; barriers = barriers })
  passed_store stores store is_stores = record {
    loads = most_kept t places x e at (λ (d : Event). IsTrue d.load × (d.proc ≡ e.proc)) old.loads (λ load. false≢true (sym store ∙ load.0)) before.loads;
    stores = subst (IsMost (IsStoreUpTo t (suc x) e.proc) places) (sym is_stores)
        (most_met t places x e at (λ (d : Event). IsFalse d.load × (d.proc ≡ e.proc)) old.stores place is_place (store, refl) before.stores);
    stbars = is_stbars;
    barriers = is_barriers;
  }

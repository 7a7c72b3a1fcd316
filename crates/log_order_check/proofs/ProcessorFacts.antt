-- What is known of each processor, with one event more.
use Rattle.std.proofs.Common.{◌≡◌, ◌∙◌, inl, inr, sym, ap, subst, refl, ℕ, suc, ◌<◌, IsTrue, IsFalse, false, Some, List, arith}
use Rattle.std.specs.Prelude.{unwrap_or}
use Rattle.std.specs.HashMap.{HashMap, Updates}
use Rattle.std.proofs.lemmas.Bool.{cases_eq}
use Rattle.std.proofs.lemmas.Bool.Decides.{nat_tests}
use Rattle.std.specs.Prelude.{nat_eq}
use Rattle.tso_ops.specs.Values.{TraceValue}
use Rattle.tso_ops.specs.declared.events.Event.{Event}
use Rattle.tso_ops.specs.Events.{event_at}
use Rattle.tso_ops.proofs.NumberFacts.{event_above_zero, event_unique}
use Rattle.log_order_check.specs.declared.passed.Fence.{Fence}
use Rattle.log_order_check.specs.declared.passed.Passed.{Passed}
use Rattle.log_order_check.specs.Internal.Passed.{IsFence, IsPassed, none_passed, processor_in}
use Rattle.log_order_check.proofs.OwnFacts.{most_first}
use Rattle.log_order_check.proofs.PassedFacts.{most_kept}

-- ---- no event

fence_first : (t : TraceValue) (places : List ℕ) (barriers : Event → ℕ) (p : ℕ) → IsFence t places barriers 0 p (record { count = 0; before = 0 })
fence_first t places barriers p = record {
  before = most_first t places (λ (d : Event). IsFalse d.load × (d.proc ≡ p) × (barriers d < 0));
  up_to = λ u d within at same. (let above = event_above_zero t u (d, at) in absurd (omega (arith, above, within)));
  last = inl refl;
}

pub passed_first : (t : TraceValue) (places : List ℕ) (p : ℕ) → IsPassed t places 0 p none_passed
passed_first t places p = record {
  loads = most_first t places (λ (d : Event). IsTrue d.load × (d.proc ≡ p));
  stores = most_first t places (λ (d : Event). IsFalse d.load × (d.proc ≡ p));
  stbars = fence_first t places (λ (d : Event). d.stbars) p;
  barriers = fence_first t places (λ (d : Event). d.bars) p;
}

-- ---- one event more

module _ (t : TraceValue) (places : List ℕ) (x : ℕ) (e : Event) (at : event_at t (suc x) ≡ Some e) where
  -- of another processor
  fence_other : (barriers : Event → ℕ) (p : ℕ) (fence : Fence) → (e.proc ≡ p → ⊥) → IsFence t places barriers x p fence → IsFence t places barriers (suc x) p fence
  fence_other barriers p fence other is = record {
    before = most_kept t places x e at (λ (d : Event). IsFalse d.load × (d.proc ≡ p) × (barriers d < fence.count)) fence.before (λ has. other has.1) is.before;
    up_to = λ u d within at_d same. elim (cases_eq u (suc x)) [
      | inl here ↦ absurd (other (ap (λ (y : Event). y.proc) (event_unique t (suc x) e d at (subst (λ v. event_at t v ≡ Some d) here at_d)) ∙ same))
      | inr apart ↦ is.up_to u d (omega (arith, within, apart)) at_d same
    ];
    last = elim is.last [
      | inl none ↦ inl none
      | inr (u, d, within, at_d, same, count) ↦ inr (u, d, omega (arith, within), at_d, same, count)
    ];
  }

  passed_other : (p : ℕ) (passed : Passed) → (e.proc ≡ p → ⊥) → IsPassed t places x p passed → IsPassed t places (suc x) p passed
  passed_other p passed other is = record {
    loads = most_kept t places x e at (λ (d : Event). IsTrue d.load × (d.proc ≡ p)) passed.loads (λ has. other has.1) is.loads;
    stores = most_kept t places x e at (λ (d : Event). IsFalse d.load × (d.proc ≡ p)) passed.stores (λ has. other has.1) is.stores;
    stbars = fence_other (λ (d : Event). d.stbars) p passed.stbars other is.stbars;
    barriers = fence_other (λ (d : Event). d.bars) p passed.barriers other is.barriers;
  }

  pub processors_next : {S : Type 0} (old new : HashMap ℕ Passed S) (after : Passed) → Updates nat_eq old new e.proc (Some after) → IsPassed t places (suc x) e.proc after →
      ((p : ℕ) → IsPassed t places x p (processor_in old p)) → (p : ℕ) → IsPassed t places (suc x) p (processor_in new p)
  processors_next {S} old new after updates is before p = elim (cases_eq e.proc p) [
    | inl same ↦
        subst (λ q. IsPassed t places (suc x) q (processor_in new q)) same
        (subst (IsPassed t places (suc x) e.proc) (sym (ap (λ o. unwrap_or o none_passed) updates.1)) is)
    | inr other ↦ (
        let test : nat_eq e.proc p ≡ false = grind (arith, nat_tests) in
        subst (IsPassed t places (suc x) p) (sym (ap (λ o. unwrap_or o none_passed) (updates.2 p test))) (passed_other p (processor_in old p) other (before p)))
  ]

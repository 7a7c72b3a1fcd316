-- The axioms by their numbers, and all of them at all events.
use Rattle.std.proofs.Common.{◌≡◌, ◌∙◌, sym, ap, subst, refl, ℕ, zero, suc, ◌<◌, ◌≤◌, List, [], ◌∷◌, get_or, arith}
use Rattle.tso_ops.specs.Values.{TraceValue}
use Rattle.tso_ops.specs.Events.{IsEvent}
use Rattle.tso_model.specs.Axioms.{IsMemoryOrder, IsModelOrder}
use Rattle.order_check.specs.declared.faults.Axiom.{Axiom}
use Rattle.order_check.specs.declared.faults.Axiom.TheVariants.{LoadOp, StoreStore, Stbar, Membar, Atomicity, Value}
use Rattle.order_check.specs.Refusals.{axiom_number, IsFirstUnmet, MeetsAll, MeetsAt}
use Rattle.tso_ops.proofs.SwapFacts.{IsSwapLoad-earlier}

-- the axioms in the order in which they are looked at
abbrev pub axioms : List Axiom
axioms = LoadOp ∷ (StoreStore ∷ (Stbar ∷ (Membar ∷ (Atomicity ∷ (Value ∷ [])))))

-- an axiom stands at its number
axiom_at : (law : Axiom) → get_or axioms (axiom_number law) LoadOp ≡ law
axiom_at LoadOp = refl
axiom_at StoreStore = refl
axiom_at Stbar = refl
axiom_at Membar = refl
axiom_at Atomicity = refl
axiom_at Value = refl

number_below : (law : Axiom) → axiom_number law < 6
number_below LoadOp = omega arith
number_below StoreStore = omega arith
number_below Stbar = omega arith
number_below Membar = omega arith
number_below Atomicity = omega arith
number_below Value = omega arith

-- and the axiom at a number has it
number_of : (k : ℕ) → k < 6 → axiom_number (get_or axioms k LoadOp) ≡ k
number_of zero low = refl
number_of (suc zero) low = refl
number_of (suc (suc zero)) low = refl
number_of (suc (suc (suc zero))) low = refl
number_of (suc (suc (suc (suc zero)))) low = refl
number_of (suc (suc (suc (suc (suc zero))))) low = refl
number_of (suc (suc (suc (suc (suc (suc k)))))) low = absurd (omega arith)

-- axioms with one number are one
pub same_number : (law other : Axiom) → axiom_number law ≡ axiom_number other → law ≡ other
same_number law other same = sym (axiom_at law) ∙ ap (λ k. get_or axioms k LoadOp) same ∙ axiom_at other

module _ (t : TraceValue) (order : List ℕ) (n k : ℕ) (before : (j : ℕ) → j < k → MeetsAt t order (get_or axioms j LoadOp) n) where
  -- the axiom at a number isn't met, and those before it are
  pub first_unmet_is : k < 6 → (MeetsAt t order (get_or axioms k LoadOp) n → ⊥) → IsFirstUnmet t order n (get_or axioms k LoadOp)
  first_unmet_is low unmet = record {
    unmet = unmet;
    lesser = λ other less. subst (λ law. MeetsAt t order law n) (axiom_at other) (before (axiom_number other) (omega (arith, less, number_of k low)));
  }

  -- all of them are met
  pub all_met : 6 ≤ k → MeetsAll t order n
  all_met whole law = subst (λ one. MeetsAt t order one n) (axiom_at law) (before (axiom_number law) (omega (arith, whole, number_below law)))

-- what is no event meets all axioms
pub nothing_unmet : (t : TraceValue) (order : List ℕ) (n : ℕ) → (IsEvent t n → ⊥) → MeetsAll t order n
nothing_unmet t order n none LoadOp = λ u load earlier. absurd (none (earlier.1, earlier.3))
nothing_unmet t order n none StoreStore = λ u first second earlier keeps. absurd (none (second.0, second.1))
nothing_unmet t order n none Stbar = λ u first second earlier fewer. absurd (none (second.0, second.1))
nothing_unmet t order n none Membar = λ u first second earlier fewer. absurd (none (second.0, second.1))
nothing_unmet t order n none Atomicity = λ l swap store other. absurd (none (store.0, store.1))
nothing_unmet t order n none Value = λ load. absurd (none (load.0, load.1))

-- ---- all axioms at all events

-- an order that meets the axioms at each event is one of the model
pub model_order : (t : TraceValue) (order : List ℕ) → IsMemoryOrder t order → ((n : ℕ) → IsEvent t n → MeetsAll t order n) → IsModelOrder t order
model_order t order memory met = record {
  memory_order = memory;
  load_op = λ u v load earlier. met v (earlier.1, earlier.3) LoadOp u load earlier;
  store_store = λ u v first second earlier keeps. met v (second.0, second.1) StoreStore u first second earlier keeps;
  stbar = λ u v first second earlier fewer. met v (second.0, second.1) Stbar u first second earlier fewer;
  membar = λ u v first second earlier fewer. met v (second.0, second.1) Membar u first second earlier fewer;
  swap = λ l swap. (let earlier = IsSwapLoad-earlier t l swap in met (suc l) (earlier.1, earlier.3) LoadOp l (swap.0, swap.1, swap.2) earlier);
  atomicity = λ l s swap store other. met s (store.0, store.1) Atomicity l swap store other;
  value = λ l load. met l (load.0, load.1) Value load;
}

-- and an order of the model meets them
pub model_meets : (t : TraceValue) (order : List ℕ) → IsModelOrder t order → (n : ℕ) → MeetsAll t order n
model_meets t order model n LoadOp = λ u load earlier. model.load_op u n load earlier
model_meets t order model n StoreStore = λ u first second earlier keeps. model.store_store u n first second earlier keeps
model_meets t order model n Stbar = λ u first second earlier fewer. model.stbar u n first second earlier fewer
model_meets t order model n Membar = λ u first second earlier fewer. model.membar u n first second earlier fewer
model_meets t order model n Atomicity = λ l swap store other. model.atomicity l n swap store other
model_meets t order model n Value = λ load. model.value n load

-- Which refusal a list of numbers gets where it is no order of the trace's memory model.
use Rattle.std.specs.Prelude.{◌≡◌, ◌≢◌, ◌⊎◌, ℕ, suc, ◌<◌, List, Some, slice_get, take, codes}
use Rattle.tso_ops.specs.Values.{TraceValue}
use Rattle.tso_ops.specs.Events.{IsEvent, IsLoad, IsStore, IsSwapLoad, Earlier, HasFewerBarriersBefore, HasFewerStbarsBefore, KeepsStores}
use Rattle.tso_model.specs.Axioms.{occurrences, place, IsMemoryOrder, IsUpTo, ReadsGreatest}
use Rattle.order_check.specs.declared.faults.Axiom.{Axiom}
use Rattle.order_check.specs.declared.faults.Axiom.TheVariants.{LoadOp, StoreStore, Stbar, Membar, Atomicity, Value}
use Rattle.order_check.specs.declared.faults.OrderFault.{OrderFault}
use Rattle.order_check.specs.declared.faults.OrderFault.TheVariants.{NotAnEvent, Repeated, Missing, Broken}

abbrev pub axiom_name : Axiom → List ℕ
axiom_name LoadOp = codes "LoadOp"
axiom_name StoreStore = codes "StoreStore"
axiom_name Stbar = codes "Stbar"
axiom_name Membar = codes "Membar"
axiom_name Atomicity = codes "Atomicity"
axiom_name Value = codes "Value"

-- the number of the axiom: of two that aren't met at one event the lesser counts
abbrev pub axiom_number : Axiom → ℕ
axiom_number LoadOp = 0
axiom_number StoreStore = 1
axiom_number Stbar = 2
axiom_number Membar = 3
axiom_number Atomicity = 4
axiom_number Value = 5

-- ---- the axioms, each at one event

-- The axiom is met at event v: what it says of all events (Axioms of `tso_model`), said of v as the one that other events come before. In
-- Atomicity v is the store that comes between a swap's load and its store.
abbrev pub MeetsAt : TraceValue → List ℕ → Axiom → ℕ → Type 0
MeetsAt t order LoadOp v = (u : ℕ) → IsLoad t u → Earlier t u v → IsUpTo order u v
MeetsAt t order StoreStore v = (u : ℕ) → IsStore t u → IsStore t v → Earlier t u v → KeepsStores t u v → IsUpTo order u v
MeetsAt t order Stbar v = (u : ℕ) → IsStore t u → IsStore t v → Earlier t u v → HasFewerStbarsBefore t u v → IsUpTo order u v
MeetsAt t order Membar v = (u : ℕ) → IsStore t u → IsLoad t v → Earlier t u v → HasFewerBarriersBefore t u v → IsUpTo order u v
MeetsAt t order Atomicity v = (l : ℕ) → IsSwapLoad t l → IsStore t v → v ≢ suc l → IsUpTo order v l ⊎ IsUpTo order (suc l) v
MeetsAt t order Value v = IsLoad t v → ReadsGreatest t order v

-- all axioms are met at the event
abbrev pub MeetsAll : TraceValue → List ℕ → ℕ → Type 0
MeetsAll t order n = (law : Axiom) → MeetsAt t order law n

-- The axiom is the first that isn't met at the event.
pub record IsFirstUnmet (t : TraceValue) (order : List ℕ) (n : ℕ) (law : Axiom) : Type 0 where
  pub unmet : MeetsAt t order law n → ⊥
  pub lesser : (other : Axiom) → axiom_number other < axiom_number law → MeetsAt t order other n

-- ---- the refusals

-- the number is the least with the property
abbrev pub IsFirst : (ℕ → Type 0) → ℕ → Type 0
IsFirst P k = P k × ((j : ℕ) → j < k → P j → ⊥)

-- the number at this place, from 0, is no event
abbrev pub IsNoEventAt : TraceValue → List ℕ → ℕ → Type 0
IsNoEventAt t order k = (n : ℕ) × (slice_get order k ≡ Some n) × (IsEvent t n → ⊥)

-- the number at this place, from 0, stands at an earlier place too
abbrev pub IsRepeatedAt : List ℕ → ℕ → Type 0
IsRepeatedAt order k = (n : ℕ) × (slice_get order k ≡ Some n) × (0 < occurrences n (take k order))

-- the event doesn't stand in the list
abbrev pub IsMissing : TraceValue → List ℕ → ℕ → Type 0
IsMissing t order n = IsEvent t n × (occurrences n order ≡ 0)

-- all numbers of the list are events
abbrev pub AreEvents : TraceValue → List ℕ → Type 0
AreEvents t order = (k : ℕ) → IsNoEventAt t order k → ⊥

-- no number stands in the list twice
abbrev pub AreDistinct : List ℕ → Type 0
AreDistinct order = (k : ℕ) → IsRepeatedAt order k → ⊥

-- The event is the first in the list at which an axiom isn't met, and the axiom the first that isn't met there.
pub record IsFirstBroken (t : TraceValue) (order : List ℕ) (law : Axiom) (n : ℕ) : Type 0 where
  pub listed : 0 < occurrences n order
  pub before : (m : ℕ) → place order m < place order n → MeetsAll t order m
  pub first : IsFirstUnmet t order n law

-- The refusal of a list in which not each event stands once, and nothing else: the first place, from 1, with a number that is no event; else the
-- first with a number that stands earlier too; else the least event that doesn't stand there.
abbrev pub IsListRefusal : TraceValue → List ℕ → OrderFault → Type 0
IsListRefusal t order (NotAnEvent place) = (k : ℕ) × (place ≡ suc k) × IsFirst (IsNoEventAt t order) k
IsListRefusal t order (Repeated place) = AreEvents t order × ((k : ℕ) × (place ≡ suc k) × IsFirst (IsRepeatedAt order) k)
IsListRefusal t order (Missing n) = AreEvents t order × AreDistinct order × IsFirst (IsMissing t order) n
IsListRefusal t order (Broken law n) = ⊥

-- the refusal of a list in which each event stands once, and nothing else
abbrev pub IsBrokenRefusal : TraceValue → List ℕ → OrderFault → Type 0
IsBrokenRefusal t order (Broken law n) = IsMemoryOrder t order × IsFirstBroken t order law n
IsBrokenRefusal t order (NotAnEvent place) = ⊥
IsBrokenRefusal t order (Repeated place) = ⊥
IsBrokenRefusal t order (Missing n) = ⊥

-- The refusal of a list of numbers: its numbers before the axioms.
abbrev pub IsOrderRefusal : TraceValue → List ℕ → OrderFault → Type 0
IsOrderRefusal t order fault = IsListRefusal t order fault ⊎ IsBrokenRefusal t order fault

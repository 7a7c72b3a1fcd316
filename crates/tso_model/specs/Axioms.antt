-- Memory orders, and the axioms of Total Store Order (TSO) and of Partial Store Order (PSO).
-- The axioms are those of the SPARC Architecture Manual Version 8, chapter 6 'Memory Model' and appendix K 'Formal Specification of the Memory
-- Model' (section K.2 has those of TSO), over the events of a trace, and one for the barrier MEMBAR #StoreLoad of the SPARC Architecture Manual
-- Version 9. The two models differ in StoreStore, and in STBAR, which orders the stores that StoreStore under PSO does not.
use Rattle.std.specs.Prelude.{◌≡◌, ◌≢◌, ◌⊎◌, ℕ, suc, ◌<◌, ◌≤◌, List, [], ◌∷◌, cond, ◌==◌}
use Rattle.tso_ops.specs.Values.{TraceValue}
use Rattle.tso_ops.specs.Events.{IsEvent, IsLoad, IsStore, IsSwapLoad, HasFirstValue, SameAddress, SameValue, Earlier, HasFewerBarriersBefore, HasFewerStbarsBefore, KeepsStores}

-- how often the number stands in the list
abbrev pub occurrences : ℕ → List ℕ → ℕ
occurrences n [] = 0
occurrences n (x ∷ rest) = cond (x == n) (suc (occurrences n rest)) (occurrences n rest)

-- the place of the number, from 0; the list's length where it doesn't stand there
abbrev pub place : List ℕ → ℕ → ℕ
place [] n = 0
place (x ∷ rest) n = cond (x == n) 0 (suc (place rest n))

-- Order (V8, K.2): memory takes the events one after the other. This project's form of it is a list in which each event of the trace
-- stands once and nothing else does: an order of all events, loads too, that is total. How it relates to the manual's wording is not claimed.
-- Termination (V8, K.2): each store takes place in the end. A trace is finite and complete, so it says that each of its stores stands in the list.
pub record IsMemoryOrder (t : TraceValue) (order : List ℕ) : Type 0 where
  pub once : (n : ℕ) → IsEvent t n → occurrences n order ≡ 1
  pub events : (n : ℕ) → (IsEvent t n → ⊥) → occurrences n order ≡ 0

-- u stands no later than v
abbrev pub IsUpTo : List ℕ → ℕ → ℕ → Type 0
IsUpTo order u v = place order u ≤ place order v

-- u stands strictly before v in the order with `init`, number 0, prepended
abbrev pub IsBefore : List ℕ → ℕ → ℕ → Type 0
IsBefore order u v = place (0 ∷ order) u < place (0 ∷ order) v

-- Store s is one that load l sees: to the load's address, and no later than the load in the order, or program-earlier than it.
-- The second is store forwarding: a processor sees its own store before memory has it.
abbrev pub IsVisible : TraceValue → List ℕ → ℕ → ℕ → Type 0
IsVisible t order s l = IsStore t s × SameAddress t s l × (IsUpTo order s l ⊎ Earlier t s l)

-- Load l returns the value of the greatest store that it sees, the last of them in the order, and the first value of its address where it
-- sees none.
abbrev pub ReadsGreatest : TraceValue → List ℕ → ℕ → Type 0
ReadsGreatest t order l =
    (HasFirstValue t l × ((s : ℕ) → IsVisible t order s l → ⊥))
    ⊎ ((s : ℕ) × IsVisible t order s l × SameValue t s l × ((other : ℕ) → IsVisible t order other l → IsUpTo order other s))

-- ---- the axioms, each of an order

-- LoadOp (V8, K.2): what a processor does after a load, memory orders after that load.
abbrev pub MeetsLoadOp : TraceValue → List ℕ → Type 0
MeetsLoadOp t order = (u v : ℕ) → IsLoad t u → Earlier t u v → IsUpTo order u v

-- StoreStore (V8, K.2; for PSO 6.3 and appendix K): memory keeps the order of a processor's stores. Under TSO this holds of any two of
-- them, with no barrier; under PSO of two to one address.
abbrev pub MeetsStoreStore : TraceValue → List ℕ → Type 0
MeetsStoreStore t order = (u v : ℕ) → IsStore t u → IsStore t v → Earlier t u v → KeepsStores t u v → IsUpTo order u v

-- STBAR (V8, 6.3 and appendix K): under PSO memory keeps the order of two stores with an STBAR between them. A trace under TSO has no STBAR:
-- its stores are in order without one.
abbrev pub MeetsStbar : TraceValue → List ℕ → Type 0
MeetsStbar t order = (u v : ℕ) → IsStore t u → IsStore t v → Earlier t u v → HasFewerStbarsBefore t u v → IsUpTo order u v

-- MEMBAR #StoreLoad (V9, 8.4.3 'The MEMBAR Instruction' and appendix D): memory orders a store before each load after the barrier.
abbrev pub MeetsMembar : TraceValue → List ℕ → Type 0
MeetsMembar t order = (u v : ℕ) → IsStore t u → IsLoad t v → Earlier t u v → HasFewerBarriersBefore t u v → IsUpTo order u v

-- Atomicity (V8, K.2): a swap's load comes before its store (the field `swap` below), and no other store, to any address, comes between the two.
abbrev pub MeetsAtomicity : TraceValue → List ℕ → Type 0
MeetsAtomicity t order = (l s : ℕ) → IsSwapLoad t l → IsStore t s → s ≢ suc l → IsUpTo order s l ⊎ IsUpTo order (suc l) s

-- Value (V8, K.2): a load returns what the last store that it sees wrote.
abbrev pub MeetsValue : TraceValue → List ℕ → Type 0
MeetsValue t order = (l : ℕ) → IsLoad t l → ReadsGreatest t order l

-- The order meets the axioms of the trace's memory model. A swap's load counts as a load in each of them, and its store, whose number is the
-- next, as a store.
pub record IsModelOrder (t : TraceValue) (order : List ℕ) : Type 0 where
  -- Order and Termination
  pub memory_order : IsMemoryOrder t order
  pub load_op : MeetsLoadOp t order
  pub store_store : MeetsStoreStore t order
  pub stbar : MeetsStbar t order
  pub membar : MeetsMembar t order
  pub swap : (l : ℕ) → IsSwapLoad t l → IsUpTo order l (suc l)
  pub atomicity : MeetsAtomicity t order
  pub value : MeetsValue t order

-- some order meets the axioms of the trace's model
abbrev pub IsConsistent : TraceValue → Type 0
IsConsistent t = (order : List ℕ) × IsModelOrder t order

-- What the sentence of each rule says of a memory order, in the words of the axioms. The laws say that it is true of each memory order that meets
-- the rule's one axiom. Such orders there are of traces, too, that no order of the model explains. There is none where an Own edge
-- leads to `init`, since its load sees a store and yet read the first value; and where a LoadPast edge does, there is none in which the path leads
-- forwards. What the sentence of such an edge says is stated apart, at the end.
use Rattle.std.specs.Prelude.{◌≡◌, ◌≢◌, ◌⊎◌, ℕ, suc, List}
use Rattle.tso_ops.specs.Values.{TraceValue}
use Rattle.tso_ops.specs.Events.{IsEvent, IsLoad, IsStore, IsSwapLoad, HasFirstValue, SameAddress, SameValue, Earlier, HasFewerBarriersBefore, HasFewerStbarsBefore, HasSource, KeepsStores}
use Rattle.tso_cert.specs.declared.rules.BaseRule.{BaseRule}
use Rattle.tso_cert.specs.declared.rules.BaseRule.TheVariants.{Init, LoadOp, StoreStore, Stbar, Membar, Read, Own}
use Rattle.tso_cert.specs.declared.rules.InferredRule.{InferredRule}
use Rattle.tso_cert.specs.declared.rules.InferredRule.TheVariants.{LoadPast, StorePast, SwapBefore, SwapAfter}
use Rattle.tso_model.specs.Axioms.{IsBefore, IsVisible, ReadsGreatest}

-- load l read what number s wrote, and each other store that it sees comes before that: it reads the last of the stores that it sees
abbrev pub ReadsLast : TraceValue → List ℕ → ℕ → ℕ → Type 0
ReadsLast t order l s = HasSource t l s × ((other : ℕ) → IsVisible t order other l → other ≢ s → IsBefore order other s)

-- no other store comes between a swap's load l and its store
abbrev pub IsAtomic : TraceValue → List ℕ → ℕ → Type 0
IsAtomic t order l = IsSwapLoad t l × ((other : ℕ) → IsStore t other → other ≢ suc l → IsBefore order other l ⊎ IsBefore order (suc l) other)

-- What the sentence of a base rule says of the edge from u to v, for load l where the rule is Own.
abbrev pub BaseSays : TraceValue → List ℕ → BaseRule → ℕ → ℕ → ℕ → Type 0
-- they come before every event
BaseSays t order Init u v l = (u ≡ 0) × IsEvent t v × ((n : ℕ) → IsEvent t n → IsBefore order u n)
-- a load comes before all that follows it on its processor
BaseSays t order LoadOp u v l = IsLoad t u × Earlier t u v × ((n : ℕ) → Earlier t u n → IsBefore order u n)
-- a processor keeps its stores in order; under PSO, its stores to one address
BaseSays t order StoreStore u v l =
    IsStore t u × IsStore t v × Earlier t u v × KeepsStores t u v × ((n : ℕ) → IsStore t n → Earlier t u n → KeepsStores t u n → IsBefore order u n)
-- program order, with 'stbar' between the two stores
BaseSays t order Stbar u v l = IsStore t u × IsStore t v × Earlier t u v × HasFewerStbarsBefore t u v × IsBefore order u v
-- program order, with 'mb' between the store and the load
BaseSays t order Membar u v l = IsStore t u × IsLoad t v × Earlier t u v × HasFewerBarriersBefore t u v × IsBefore order u v
-- the load read this store; it sees the store, which isn't earlier on its own processor, so the store comes before it
BaseSays t order Read u v l = HasSource t v u × IsVisible t order u v × (Earlier t u v → ⊥) × IsBefore order u v
-- load l sees the store, which is earlier on its own processor, and read something else, which comes after this store
BaseSays t order Own u v l = Earlier t u l × IsVisible t order u l × ReadsLast t order l v × (u ≢ v) × IsBefore order u v

-- What the sentence of an inferred rule says of the edge from u to v, for load l, where the path's first number x comes before its last one y.
abbrev pub InferredSays : TraceValue → List ℕ → InferredRule → ℕ → ℕ → ℕ → ℕ → ℕ → Type 0
-- load l sees the store, which comes before it by the path, and read something else, which comes after this store
InferredSays t order LoadPast l u v x y = (x ≡ u) × (y ≡ l) × IsBefore order u l × IsVisible t order u l × ReadsLast t order l v × (u ≢ v) × IsBefore order u v
-- the load read something older than the store, which comes after that by the path; had the store come before the load, the load would see it, and
-- so would have read it or a later store
InferredSays t order StorePast l u v x y =
    (u ≡ l) × (y ≡ v) × HasSource t l x × IsBefore order x v × IsStore t v × SameAddress t v l
    × (IsBefore order v l → IsVisible t order v l × (HasSource t l v ⊎ ((s : ℕ) → HasSource t l s → IsBefore order v s))) × IsBefore order l v
-- this store comes before a swap's store by the path, and no other store comes between a swap's load and its store, so it comes before both
InferredSays t order SwapBefore l u v x y = (v ≡ l) × (x ≡ u) × (y ≡ suc l) × IsBefore order u (suc l) × IsAtomic t order l × IsBefore order u l
-- this store comes after a swap's load by the path, so it comes after both
InferredSays t order SwapAfter l u v x y = (u ≡ suc l) × (x ≡ l) × (y ≡ v) × IsBefore order l v × IsAtomic t order l × IsBefore order (suc l) v

-- ---- edges to init

-- Load l sees store u, yet it read something else, the first value of its address. A load reads the last of the stores that it sees, and the first
-- value only where it sees none. So the order doesn't meet Value for load l: it doesn't let the load read what it read.
abbrev pub SeesStoreButReadFirstValue : TraceValue → List ℕ → ℕ → ℕ → Type 0
SeesStoreButReadFirstValue t order l u = IsVisible t order u l × (SameValue t u l → ⊥) × HasFirstValue t l × (ReadsGreatest t order l → ⊥)

-- What the sentence of an Own edge from u to `init` says, for load l, but for its last words: the load sees the store, which is earlier on its own
-- processor, and it read the first value. The last words, that what it read comes after the store, are true of no order, since `init` comes before
-- all; they would follow if an order let the load read the first value, and none does.
abbrev pub OwnToInitSays : TraceValue → List ℕ → ℕ → ℕ → Type 0
OwnToInitSays t order l u = Earlier t u l × SeesStoreButReadFirstValue t order l u

-- What the sentence of a LoadPast edge from u to `init` says, for load l, but for the same last words, where the path's first number x comes before its
-- last one y: the load sees the store, which comes before it by the path, and it read the first value.
abbrev pub LoadPastToInitSays : TraceValue → List ℕ → ℕ → ℕ → ℕ → ℕ → Type 0
LoadPastToInitSays t order l u x y = (x ≡ u) × (y ≡ l) × IsBefore order u l × SeesStoreButReadFirstValue t order l u

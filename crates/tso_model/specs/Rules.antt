-- Which edges the axioms force: base pairs, inferred pairs and the derived order.
-- An edge from u to v says that u stands before v in each order that meets the axioms of the trace's model. Its ends are numbers of events, or
-- 0, which stands for `init`, the writer of the first values. A rule that names the source of a load doesn't apply to a load that is unwritten.
use Rattle.std.specs.Prelude.{◌≡◌, ◌≢◌, ℕ, suc, Bool, IsTrue}
use Rattle.tso_ops.specs.Values.{TraceValue}
use Rattle.tso_ops.specs.Events.{IsEvent, IsLoad, IsStore, IsSwapLoad, HasSource, SameAddress, Earlier, HasFewerBarriersBefore, HasFewerStbarsBefore, KeepsStores}
use Rattle.tso_cert.specs.declared.rules.BaseRule.{BaseRule}
use Rattle.tso_cert.specs.declared.rules.BaseRule.TheVariants.{Init, LoadOp, StoreStore, Stbar, Membar, Read, Own}
use Rattle.tso_cert.specs.declared.rules.InferredRule.{InferredRule}
use Rattle.tso_cert.specs.declared.rules.InferredRule.TheVariants.{LoadPast, StorePast, SwapBefore, SwapAfter}

-- load l sees store u, which is to its address and program-earlier, but another number v is its source
abbrev pub IsOwnBy : TraceValue → ℕ → ℕ → ℕ → Type 0
IsOwnBy t l u v = IsStore t u × SameAddress t u l × Earlier t u l × HasSource t l v × (u ≢ v)

-- The base rule gives the edge from u to v.
abbrev pub BasePair : TraceValue → BaseRule → ℕ → ℕ → Type 0
-- the first values come before all events
BasePair t Init u v = (u ≡ 0) × IsEvent t v
-- the axioms LoadOp, StoreStore, STBAR and MEMBAR #StoreLoad
BasePair t LoadOp u v = IsLoad t u × Earlier t u v
BasePair t StoreStore u v = IsStore t u × IsStore t v × Earlier t u v × KeepsStores t u v
BasePair t Stbar u v = IsStore t u × IsStore t v × Earlier t u v × HasFewerStbarsBefore t u v
BasePair t Membar u v = IsStore t u × IsLoad t v × Earlier t u v × HasFewerBarriersBefore t u v
-- a load sees its source; a program-earlier one it may have seen by store forwarding, which orders nothing
BasePair t Read u v = IsStore t u × HasSource t v u × (Earlier t u v → ⊥)
-- the source of a load is the last store that it sees, so another store that it sees comes before the source
BasePair t Own u v = (l : ℕ) × IsOwnBy t l u v

-- The rule gives, for load l, the edge from u to v, where there is a path from x to y.
abbrev pub InferredBy : TraceValue → InferredRule → ℕ → ℕ → ℕ → ℕ → ℕ → Type 0
-- a store to the load's address that comes before the load is seen by it, so it comes before the load's source v
InferredBy t LoadPast l u v x y = IsStore t u × SameAddress t u l × HasSource t l v × (u ≢ v) × (x ≡ u) × (y ≡ l)
-- a store to the load's address that comes after the load's source x isn't seen by it, so it comes after the load
InferredBy t StorePast l u v x y = (u ≡ l) × IsStore t v × SameAddress t v l × HasSource t l x × (v ≢ x) × (y ≡ v)
-- nothing comes between a swap's load l and its store suc l: a store before the one is before both
InferredBy t SwapBefore l u v x y = IsSwapLoad t l × (v ≡ l) × IsStore t u × (u ≢ suc l) × (x ≡ u) × (y ≡ suc l)
-- and a store after the one is after both
InferredBy t SwapAfter l u v x y = IsSwapLoad t l × (u ≡ suc l) × IsStore t v × (v ≢ suc l) × (x ≡ l) × (y ≡ v)

-- A set of pairs that the rules don't lead out of: it has each base pair, it is transitive, and it has each pair that an inferred rule gives,
-- where "there is a path from x to y" is read as "the set has the pair of x and y".
pub record IsClosed (t : TraceValue) (set : ℕ → ℕ → Bool) : Type 0 where
  pub base : (rule : BaseRule) (u v : ℕ) → BasePair t rule u v → IsTrue (set u v)
  pub transitive : (u v w : ℕ) → IsTrue (set u v) → IsTrue (set v w) → IsTrue (set u w)
  pub inferred : (rule : InferredRule) (l u v x y : ℕ) → InferredBy t rule l u v x y → IsTrue (set x y) → IsTrue (set u v)

-- The derived order: the pair lies in every closed set. A clause of a contract can't range over facts on pairs, so this ranges over tests;
-- the law `exactness` ties it down, as it says that these are just the pairs with a path over the rank sets.
abbrev pub IsDerived : TraceValue → ℕ → ℕ → Type 0
IsDerived t u v = (set : ℕ → ℕ → Bool) → IsClosed t set → IsTrue (set u v)

-- the derived order puts some number before itself
abbrev pub HasDerivedCycle : TraceValue → Type 0
HasDerivedCycle t = (u : ℕ) × IsDerived t u u

-- No rule gives an edge from a number to itself.
use Rattle.std.proofs.Common.{◌≡◌, ℕ, refl, arith}
use Rattle.tso_ops.specs.Values.{TraceValue}
use Rattle.tso_ops.specs.Events.{IsStore, IsSwapLoad, HasSource, Earlier}
use Rattle.tso_cert.specs.declared.rules.BaseRule.{BaseRule}
use Rattle.tso_cert.specs.declared.rules.BaseRule.TheVariants.{Init, LoadOp, StoreStore, Stbar, Membar, Read, Own}
use Rattle.tso_cert.specs.declared.rules.InferredRule.{InferredRule}
use Rattle.tso_cert.specs.declared.rules.InferredRule.TheVariants.{LoadPast, StorePast, SwapBefore, SwapAfter}
use Rattle.tso_model.specs.Rules.{BasePair, InferredBy}
use Rattle.tso_ops.proofs.NumberFacts.{event_above_zero, load_is_no_store}
use Rattle.tso_ops.proofs.TableFacts.{source_load}

-- no event is program-earlier than itself
Earlier-irreflexive : (t : TraceValue) (u : ℕ) → Earlier t u u → ⊥
Earlier-irreflexive t u earlier = omega (arith, earlier.5)

-- no store is a load with a source
no_store_source : (t : TraceValue) (u v s : ℕ) → u ≡ v → IsStore t u → HasSource t v s → ⊥
no_store_source t u v s same store source = load_is_no_store t v (source_load t v s source) (rw same at store)

-- no store is a swap's load
no_store_swap : (t : TraceValue) (u l : ℕ) → u ≡ l → IsStore t u → IsSwapLoad t l → ⊥
no_store_swap t u l same store swap = load_is_no_store t l (swap.0, swap.1, swap.2) (rw same at store)

-- no base rule gives an edge from a number to itself
pub BasePair-different : (t : TraceValue) (rule : BaseRule) (u : ℕ) → BasePair t rule u u → ⊥
BasePair-different t Init u pair = let above = event_above_zero t u pair.1 in omega (arith, pair.0, above)
BasePair-different t LoadOp u pair = Earlier-irreflexive t u pair.1
BasePair-different t StoreStore u pair = Earlier-irreflexive t u pair.2
BasePair-different t Stbar u pair = Earlier-irreflexive t u pair.2
BasePair-different t Membar u pair = Earlier-irreflexive t u pair.2
BasePair-different t Read u pair = no_store_source t u u u refl pair.0 pair.1
BasePair-different t Own u pair = pair.1.4 refl

-- no inferred rule does
pub InferredBy-different : (t : TraceValue) (rule : InferredRule) (l u x y : ℕ) → InferredBy t rule l u u x y → ⊥
InferredBy-different t LoadPast l u x y by = by.3 refl
InferredBy-different t StorePast l u x y by = no_store_source t u l x by.0 by.1 by.3
InferredBy-different t SwapBefore l u x y by = no_store_swap t u l by.1 by.2 by.0
InferredBy-different t SwapAfter l u x y by = by.3 by.1

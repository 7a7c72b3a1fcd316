-- The numbers of base pairs, of inferred pairs and of the edges of rank sets lie between 0 and the number of events.
use Rattle.std.proofs.Common.{◌≡◌, ℕ, zero, suc, ◌<◌, inl, inr, arith}
use Rattle.tso_ops.specs.Values.{TraceValue}
use Rattle.tso_ops.specs.Events.{event_total}
use Rattle.tso_cert.specs.declared.rules.BaseRule.{BaseRule}
use Rattle.tso_cert.specs.declared.rules.BaseRule.TheVariants.{Init, LoadOp, StoreStore, Stbar, Membar, Read, Own}
use Rattle.tso_cert.specs.declared.rules.InferredRule.{InferredRule}
use Rattle.tso_cert.specs.declared.rules.InferredRule.TheVariants.{LoadPast, StorePast, SwapBefore, SwapAfter}
use Rattle.tso_model.specs.Rules.{BasePair, InferredBy}
use Rattle.tso_model.specs.Ranks.{RankSet}
use Rattle.tso_ops.proofs.NumberFacts.{IsEvent-within, IsLoad-within, IsStore-within, HasSource-within}
use Rattle.tso_ops.proofs.SwapFacts.{IsSwapLoad-within}

-- the numbers of a base pair lie within the numbers of events
pub BasePair-within : (t : TraceValue) (rule : BaseRule) (u v : ℕ) → BasePair t rule u v → (u < suc (event_total t)) × (v < suc (event_total t))
BasePair-within t Init u v h = let first : u ≡ 0 = h.0 in (omega arith, IsEvent-within t v h.1)
BasePair-within t LoadOp u v h = (IsLoad-within t u h.0, IsEvent-within t v (h.1.1, h.1.3))
BasePair-within t StoreStore u v h = (IsStore-within t u h.0, IsStore-within t v h.1)
BasePair-within t Stbar u v h = (IsStore-within t u h.0, IsStore-within t v h.1)
BasePair-within t Membar u v h = (IsStore-within t u h.0, IsLoad-within t v h.1)
BasePair-within t Read u v h = (IsStore-within t u h.0, (HasSource-within t v u h.1).0)
BasePair-within t Own u v h = (IsStore-within t u h.1.0, (HasSource-within t h.0 v h.1.3).1)

-- the load, the edge and the ends of the path lie within the numbers of events
pub record AreWithin (t : TraceValue) (l u v x y : ℕ) : Type 0 where
  pub load : l < suc (event_total t)
  pub from : u < suc (event_total t)
  pub to : v < suc (event_total t)
  pub path_from : x < suc (event_total t)
  pub path_to : y < suc (event_total t)

-- the numbers that an inferred rule speaks of lie within the numbers of events
pub InferredBy-within : (t : TraceValue) (rule : InferredRule) (l u v x y : ℕ) → InferredBy t rule l u v x y → AreWithin t l u v x y
InferredBy-within t LoadPast l u v x y h =
    let store = IsStore-within t u h.0 in
    let source = HasSource-within t l v h.2 in
    let from : x ≡ u = h.4 in
    let to : y ≡ l = h.5 in
    record { load = source.0; from = store; to = source.1; path_from = omega arith; path_to = omega arith }
InferredBy-within t StorePast l u v x y h =
    let store = IsStore-within t v h.1 in
    let source = HasSource-within t l x h.3 in
    let at_load : u ≡ l = h.0 in
    let to : y ≡ v = h.5 in
    record { load = source.0; from = omega arith; to = store; path_from = source.1; path_to = omega arith }
InferredBy-within t SwapBefore l u v x y h =
    let swap = IsSwapLoad-within t l h.0 in
    let at_load : v ≡ l = h.1 in
    let store = IsStore-within t u h.2 in
    let from : x ≡ u = h.4 in
    let to : y ≡ suc l = h.5 in
    record { load = swap.0; from = store; to = omega arith; path_from = omega arith; path_to = omega arith }
InferredBy-within t SwapAfter l u v x y h =
    let swap = IsSwapLoad-within t l h.0 in
    let at_store : u ≡ suc l = h.1 in
    let store = IsStore-within t v h.2 in
    let from : x ≡ l = h.4 in
    let to : y ≡ v = h.5 in
    record { load = swap.0; from = omega arith; to = store; path_from = omega arith; path_to = omega arith }

-- The edges of a rank set lie within the numbers of events.
pub RankSet-within : (t : TraceValue) (k u v : ℕ) → RankSet t k u v → (u < suc (event_total t)) × (v < suc (event_total t))
RankSet-within t zero u v e = BasePair-within t e.0 u v e.1
RankSet-within t (suc k) u v (inl e) = RankSet-within t k u v e
RankSet-within t (suc k) u v (inr e) =
    let w = InferredBy-within t e.0.0 e.0.1 u v e.0.2 e.0.3 e.0.4 in
    (w.from, w.to)

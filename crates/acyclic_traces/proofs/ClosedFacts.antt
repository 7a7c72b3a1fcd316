-- A table that the rules don't lead out of, and that is a strict order, shows that there is no derived cycle.
use Rattle.std.proofs.Common.{ℕ, Bool, IsTrue, List, get_or, inl, inr}
use Rattle.order_paths.proofs.Decisions.{test_of, test_of-holds, test_of-true}
use Rattle.bitsets.proofs.WordFacts.{HasBit-decided}
use Rattle.tso_ops.specs.Values.{TraceValue}
use Rattle.tso_cert.specs.declared.rules.BaseRule.{BaseRule}
use Rattle.tso_cert.specs.declared.rules.BaseRule.TheVariants.{Init, LoadOp, StoreStore, Stbar, Membar, Read, Own}
use Rattle.tso_cert.specs.declared.rules.InferredRule.{InferredRule}
use Rattle.tso_cert.specs.declared.rules.InferredRule.TheVariants.{LoadPast, StorePast, SwapBefore, SwapAfter}
use Rattle.tso_model.specs.Rules.{BasePair, InferredBy, IsClosed, HasDerivedCycle}
use Rattle.acyclic_traces.specs.Internal.Pairs.{HasPair, HasAllPairs, IsStrictOrder, AreOrderPairs, IsClosedForReads, IsClosedForSwap}

module _ (t : TraceValue) (rows order : List ℕ) (in_order : AreOrderPairs t order) (has_order : HasAllPairs rows order) (strict : IsStrictOrder rows)
    (reads : (l : ℕ) → IsClosedForReads t rows l) (swaps : (l : ℕ) → IsClosedForSwap t rows l) where
  -- the table as a test
  pairs : ℕ → ℕ → Bool
  pairs u v = test_of (HasBit-decided (get_or rows u 0) v)

  shown : (u v : ℕ) → HasPair rows u v → IsTrue (pairs u v)
  unfolding pairs
  shown u v has = test_of-holds (HasBit-decided (get_or rows u 0) v) has

  read : (u v : ℕ) → IsTrue (pairs u v) → HasPair rows u v
  unfolding pairs
  read u v test = test_of-true (HasBit-decided (get_or rows u 0) v) test

  base : (rule : BaseRule) (u v : ℕ) → BasePair t rule u v → HasPair rows u v
  base Init u v pair = has_order u v (in_order u v (inl pair))
  base LoadOp u v pair = has_order u v (in_order u v (inr (inl pair)))
  base StoreStore u v pair = has_order u v (in_order u v (inr (inr (inl pair))))
  base Stbar u v pair = has_order u v (in_order u v (inr (inr (inr (inl pair)))))
  base Membar u v pair = has_order u v (in_order u v (inr (inr (inr (inr pair)))))
  base Read u v pair = (reads v).read u pair
  base Own u v pair = (reads pair.0).own u v pair.1

  inferred : (rule : InferredRule) (l u v x y : ℕ) → InferredBy t rule l u v x y → HasPair rows x y → HasPair rows u v
  inferred LoadPast l u v x y by has = (reads l).load_past u v (x, y, by, has)
  inferred StorePast l u v x y by has = (reads l).store_past u v (x, y, by, has)
  inferred SwapBefore l u v x y by has = (swaps l).before u v (x, y, by, has)
  inferred SwapAfter l u v x y by has = (swaps l).after u v (x, y, by, has)

  closed : IsClosed t pairs
  closed = record {
    base = λ rule u v pair. shown u v (base rule u v pair);
    transitive = λ u v w first second. shown u w ((strict u).1 v w (read u v first) (read v w second));
    inferred = λ rule l u v x y by path. shown u v (inferred rule l u v x y by (read x y path));
  }

  pub no_cycle : HasDerivedCycle t → ⊥
  no_cycle cycle = (strict cycle.0).0 (read cycle.0 cycle.0 (cycle.1 pairs closed))

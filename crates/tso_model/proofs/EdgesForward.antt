-- Soundness: in every order of the trace's model each edge of a rank set and each derived pair leads forwards.
use Rattle.std.proofs.Common.{◌≡◌, ◌≢◌, ◌⊎◌, ℕ, zero, suc, List, ◌∷◌, refl, sym, arith, inl, inr}
use Rattle.tso_ops.specs.Values.{TraceValue}
use Rattle.tso_ops.specs.Events.{IsEvent, IsLoad, IsStore, IsSwapLoad, SameAddress, Earlier, HasSource, IsUnwritten}
use Rattle.tso_cert.specs.declared.rules.BaseRule.{BaseRule}
use Rattle.tso_cert.specs.declared.rules.BaseRule.TheVariants.{Init, LoadOp, StoreStore, Stbar, Membar, Read, Own}
use Rattle.tso_cert.specs.declared.rules.InferredRule.{InferredRule}
use Rattle.tso_cert.specs.declared.rules.InferredRule.TheVariants.{LoadPast, StorePast, SwapBefore, SwapAfter}
use Rattle.order_paths.specs.Paths.{HasCycle}
use Rattle.order_paths.proofs.RisingNumbers.{Rises, rises_on_path, rises_without_cycle}
use Rattle.tso_model.specs.Axioms.{place, IsUpTo, IsBefore, IsVisible, ReadsGreatest, IsMemoryOrder, IsModelOrder, MeetsAtomicity}
use Rattle.tso_model.specs.RuleAxioms.{BaseAxiom, InferredAxiom}
use Rattle.tso_model.specs.Rules.{BasePair, InferredBy, IsOwnBy, IsDerived, HasDerivedCycle}
use Rattle.tso_model.specs.Ranks.{RankSet}
use Rattle.tso_ops.proofs.NumberFacts.{HasOwnValues, event_above_zero, load_is_no_store, store_event, load_event, store_source, source_unique}
use Rattle.tso_ops.proofs.TableFacts.{source_load}
use Rattle.tso_model.proofs.DerivedPaths.{derived_exactly}
use Rattle.tso_model.proofs.Places.{zero_before, nothing_before_zero, before_from_up_to, before_or_up_to, up_to_from_before, before_not_up_to, before_of_same}

-- a trace with an order has no unwritten load
pub all_written : (t : TraceValue) (order : List ℕ) → IsModelOrder t order → (l : ℕ) → IsUnwritten t l → ⊥
all_written t order axioms l unwritten = by_cases (axioms.value l unwritten.0)
  where
    by_cases : ReadsGreatest t order l → ⊥
    by_cases (inl read) = unwritten.1 0 (unwritten.0, read.0)
    by_cases (inr read) = unwritten.1 read.0 (store_source t l read.0 unwritten.0 read.1.0 read.1.1 read.2)

-- What a load with this source sees: nothing where the source is number 0, else its source as the greatest store.
pub data SeesSource (t : TraceValue) (order : List ℕ) (l s : ℕ) : Type 0 where
  nothing : s ≡ 0 → ((other : ℕ) → IsVisible t order other l → ⊥) → SeesSource t order l s
  greatest : IsVisible t order s l → ((other : ℕ) → IsVisible t order other l → IsUpTo order other s) → SeesSource t order l s

module _ (t : TraceValue) (own : HasOwnValues t) (order : List ℕ) (memory : IsMemoryOrder t order) where
  -- a number that stands no later than another, where that is an event, stands before it
  strict : (u v : ℕ) → IsEvent t v → u ≢ v → IsUpTo order u v → IsBefore order u v
  strict u v event other up_to =
      let once = memory.once v event in
      before_from_up_to order u v (omega arith) (event_above_zero t v event) other up_to

  -- a program-earlier event that stands no later than the other stands before it
  earlier_before : (u v : ℕ) → Earlier t u v → IsUpTo order u v → IsBefore order u v
  earlier_before u v earlier up_to = strict u v (earlier.1, earlier.3) (λ same. omega (arith, earlier.5)) up_to

module _ (t : TraceValue) (own : HasOwnValues t) (order : List ℕ) (memory : IsMemoryOrder t order) (l : ℕ) (value : ReadsGreatest t order l) where
  -- a load sees its source as the greatest store, or nothing
  sees_source : (s : ℕ) → HasSource t l s → SeesSource t order l s
  sees_source s source = by_cases value
    where
      by_cases : ReadsGreatest t order l → SeesSource t order l s
      by_cases (inl read) = nothing (source_unique t own l s 0 source (source_load t l s source, read.0)) read.1
      by_cases (inr read) =
          let visible = read.1 in
          let same : s ≡ read.0 = source_unique t own l s read.0 source (store_source t l read.0 (source_load t l s source) visible.0 visible.1 read.2) in
          rw same (greatest visible read.3)

  -- a store that the load sees stands before its source, if it is another
  before_source : (u v : ℕ) → HasSource t l v → IsVisible t order u l → u ≢ v → IsBefore order u v
  before_source u v source visible other = by_cases (sees_source v source)
    where
      by_cases : SeesSource t order l v → IsBefore order u v
      by_cases (nothing none_written none) = absurd (none u visible)
      by_cases (greatest seen least) = strict t own order memory u v (store_event t v seen.0) other (least u visible)

  -- a store that isn't program-earlier than a load of it stands before the load
  read_before : (u : ℕ) → IsStore t u → HasSource t l u → (Earlier t u l → ⊥) → IsBefore order u l
  read_before u store source no_earlier = by_cases (sees_source u source)
    where
      load : IsLoad t l
      load = source_load t l u source

      by_place : IsUpTo order u l ⊎ Earlier t u l → IsBefore order u l
      by_place (inl up_to) = strict t own order memory u l (load_event t l load) (λ same. load_is_no_store t l load (rw same at store)) up_to
      by_place (inr earlier) = absurd (no_earlier earlier)

      by_cases : SeesSource t order l u → IsBefore order u l
      by_cases (nothing is_zero none) =
          let above = event_above_zero t u (store_event t u store) in absurd (omega arith)
      by_cases (greatest seen least) = by_place seen.2

  -- a store to a load's address that stands before the load stands before its source, if it is another
  load_past_before : (u v : ℕ) → IsStore t u → SameAddress t u l → HasSource t l v → u ≢ v → IsBefore order u l → IsBefore order u v
  load_past_before u v store address source other before =
      let up_to = up_to_from_before order u l (event_above_zero t u (store_event t u store)) before in
      before_source u v source (store, address, inl up_to) other

  -- a load stands before each store to its address that its source stands before
  store_past_before : (v x : ℕ) → IsStore t v → SameAddress t v l → HasSource t l x → v ≢ x → IsBefore order x v → IsBefore order l v
  store_past_before v x store address source other before =
      by_cases (before_or_up_to order l v (event_above_zero t l (load_event t l load)) (event_above_zero t v (store_event t v store)))
    where
      load : IsLoad t l
      load = source_load t l x source

      by_cases : IsBefore order l v ⊎ IsUpTo order v l → IsBefore order l v
      by_cases (inl first) = first
      by_cases (inr up_to) =
          let back : IsBefore order v x = before_source v x source (store, address, inl up_to) other in
          omega arith

module _ (t : TraceValue) (own : HasOwnValues t) (order : List ℕ) (memory : IsMemoryOrder t order) (atomicity : MeetsAtomicity t order) where
  -- a store that stands before a swap's store stands before the swap's load
  swap_before_before : (l u : ℕ) → IsSwapLoad t l → IsStore t u → u ≢ suc l → IsBefore order u (suc l) → IsBefore order u l
  swap_before_before l u swap store other before = by_cases (atomicity l u swap store other)
    where
      load : IsLoad t l
      load = (swap.0, swap.1, swap.2)

      by_cases : IsUpTo order u l ⊎ IsUpTo order (suc l) u → IsBefore order u l
      by_cases (inl up_to) = strict t own order memory u l (load_event t l load) (λ same. load_is_no_store t l load (rw same at store)) up_to
      by_cases (inr up_to) = absurd (before_not_up_to order u (suc l) (event_above_zero t u (store_event t u store)) before up_to)

  -- a swap's store stands before each store that the swap's load stands before
  swap_after_before : (l v : ℕ) → IsSwapLoad t l → IsStore t v → v ≢ suc l → IsBefore order l v → IsBefore order (suc l) v
  swap_after_before l v swap store other before = by_cases (atomicity l v swap store other)
    where
      by_cases : IsUpTo order v l ⊎ IsUpTo order (suc l) v → IsBefore order (suc l) v
      by_cases (inl up_to) = absurd (before_not_up_to order l v (event_above_zero t l (swap.0, swap.1)) before up_to)
      by_cases (inr up_to) = strict t own order memory (suc l) v (store_event t v store) (λ same. other (sym same)) up_to

module _ (t : TraceValue) (own : HasOwnValues t) (order : List ℕ) (memory : IsMemoryOrder t order) where
  -- an edge of a base rule leads forwards in each memory order that meets the rule's axiom
  pub base_forwards : (rule : BaseRule) (u v l : ℕ) → BaseAxiom t order rule v l → BasePair t rule u v → (rule ≡ Own → IsOwnBy t l u v) → IsBefore order u v
  base_forwards Init u v l none pair own_by = rw pair.0 (zero_before order v (event_above_zero t v pair.1))
  base_forwards LoadOp u v l load_op pair own_by = earlier_before t own order memory u v pair.1 (load_op u v pair.0 pair.1)
  base_forwards StoreStore u v l store_store pair own_by = earlier_before t own order memory u v pair.2 (store_store u v pair.0 pair.1 pair.2 pair.3)
  base_forwards Stbar u v l stbar pair own_by = earlier_before t own order memory u v pair.2 (stbar u v pair.0 pair.1 pair.2 pair.3)
  base_forwards Membar u v l membar pair own_by = earlier_before t own order memory u v pair.2 (membar u v pair.0 pair.1 pair.2 pair.3)
  base_forwards Read u v l value pair own_by = read_before t own order memory v value u pair.0 pair.1 pair.2
  base_forwards Own u v l value pair own_by =
      let by = own_by refl in before_source t own order memory l value u v by.3 (by.0, by.1, inr by.2) by.4

  -- an edge of an inferred rule leads forwards if its path's ends do, in each memory order that meets the rule's axiom
  pub inferred_forwards : (rule : InferredRule) (l u v x y : ℕ) → InferredAxiom t order rule l → InferredBy t rule l u v x y → IsBefore order x y → IsBefore order u v
  inferred_forwards LoadPast l u v x y value by before =
      load_past_before t own order memory l value u v by.0 by.1 by.2 by.3 (before_of_same order x y u l by.4 by.5 before)
  inferred_forwards StorePast l u v x y value by before =
      rw by.0 (store_past_before t own order memory l value v x by.1 by.2 by.3 by.4 (before_of_same order x y x v refl by.5 before))
  inferred_forwards SwapBefore l u v x y atomicity by before =
      rw by.1 (swap_before_before t own order memory atomicity l u by.0 by.2 by.3 (before_of_same order x y u (suc l) by.4 by.5 before))
  inferred_forwards SwapAfter l u v x y atomicity by before =
      rw by.1 (swap_after_before t own order memory atomicity l v by.0 by.2 by.3 (before_of_same order x y l v by.4 by.5 before))

-- the load by which a base rule gives an edge, where the rule is Own
own_load_of : (t : TraceValue) (rule : BaseRule) (u v : ℕ) → BasePair t rule u v → (l : ℕ) × (rule ≡ Own → IsOwnBy t l u v)
own_load_of t Init u v pair = (0, λ same. cc)
own_load_of t LoadOp u v pair = (0, λ same. cc)
own_load_of t StoreStore u v pair = (0, λ same. cc)
own_load_of t Stbar u v pair = (0, λ same. cc)
own_load_of t Membar u v pair = (0, λ same. cc)
own_load_of t Read u v pair = (0, λ same. cc)
own_load_of t Own u v pair = (pair.0, λ same. pair.1)

module _ (t : TraceValue) (own : HasOwnValues t) (order : List ℕ) (axioms : IsModelOrder t order) where
  -- an order of the trace's model meets the axiom of each rule
  base_axiom : (rule : BaseRule) (u v l : ℕ) → BasePair t rule u v → (rule ≡ Own → IsOwnBy t l u v) → BaseAxiom t order rule v l
  base_axiom Init u v l pair own_by = tt
  base_axiom LoadOp u v l pair own_by = axioms.load_op
  base_axiom StoreStore u v l pair own_by = axioms.store_store
  base_axiom Stbar u v l pair own_by = axioms.stbar
  base_axiom Membar u v l pair own_by = axioms.membar
  base_axiom Read u v l pair own_by = axioms.value v (source_load t v u pair.1)
  base_axiom Own u v l pair own_by = axioms.value l (source_load t l v (own_by refl).3)

  inferred_axiom : (rule : InferredRule) (l u v x y : ℕ) → InferredBy t rule l u v x y → InferredAxiom t order rule l
  inferred_axiom LoadPast l u v x y by = axioms.value l (source_load t l v by.2)
  inferred_axiom StorePast l u v x y by = axioms.value l (source_load t l x by.3)
  inferred_axiom SwapBefore l u v x y by = axioms.atomicity
  inferred_axiom SwapAfter l u v x y by = axioms.atomicity

  -- so each edge of a base rule leads forwards
  pub base_before : (rule : BaseRule) (u v : ℕ) → BasePair t rule u v → IsBefore order u v
  base_before rule u v pair =
      let load = own_load_of t rule u v pair in
      base_forwards t own order axioms.memory_order rule u v load.0 (base_axiom rule u v load.0 pair load.1) pair load.1

  -- and so does the edge of an inferred rule if its path's ends do
  pub inferred_before : (rule : InferredRule) (l u v x y : ℕ) → InferredBy t rule l u v x y → IsBefore order x y → IsBefore order u v
  inferred_before rule l u v x y by =
      inferred_forwards t own order axioms.memory_order rule l u v x y (inferred_axiom rule l u v x y by) by

  -- each edge of a rank set leads forwards
  pub rank_before : (k u v : ℕ) → RankSet t k u v → IsBefore order u v
  rank_before zero u v edge = base_before edge.0 u v edge.1
  rank_before (suc k) u v (inl edge) = rank_before k u v edge
  rank_before (suc k) u v (inr edge) =
      let inferred = edge.0 in
      let rises : Rises (RankSet t k) (place (0 ∷ order)) = record { on_edge = rank_before k } in
      inferred_before inferred.0 inferred.1 u v inferred.2 inferred.3 inferred.4
      (rises_on_path (RankSet t k) (place (0 ∷ order)) rises inferred.2 inferred.3 inferred.5)

  -- no rank set has a cycle
  pub no_cycle : (k : ℕ) → HasCycle (RankSet t k) → ⊥
  no_cycle k cycle =
      rises_without_cycle (RankSet t k) (place (0 ∷ order)) (record { on_edge = rank_before k }) cycle.0 cycle.1

  -- no rank set has an edge to number 0
  pub no_edge_to_zero : (k u : ℕ) → RankSet t k u 0 → ⊥
  no_edge_to_zero k u edge = nothing_before_zero order u (rank_before k u 0 edge)

  -- each derived pair leads forwards
  pub derived_before : (u v : ℕ) → IsDerived t u v → IsBefore order u v
  derived_before u v derived =
      let p = (derived_exactly t u v).0 derived in
      rises_on_path (RankSet t p.0) (place (0 ∷ order)) (record { on_edge = rank_before p.0 }) u v p.1

  -- the derived order has no cycle
  pub no_derived_cycle : HasDerivedCycle t → ⊥
  no_derived_cycle cycle = let before = derived_before cycle.0 cycle.0 cycle.1 in omega arith

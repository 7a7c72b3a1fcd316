-- The sentences of the rules are true: what each says of a memory order holds in every one that meets the rule's axiom, and for an edge to init in
-- every one in which the path, if there is one, leads forwards.
use Rattle.std.proofs.Common.{◌≡◌, ◌≢◌, ⊎_elim, inl, inr, ℕ, zero, suc, List, refl, sym, subst, arith}
use Rattle.tso_ops.specs.Values.{TraceValue}
use Rattle.tso_ops.specs.Events.{IsEvent, IsLoad, IsStore, IsSwapLoad, SameAddress, SameValue, HasSource}
use Rattle.tso_ops.proofs.NumberFacts.{HasOwnValues, event_above_zero, load_is_no_store, store_event, load_event, store_source, source_unique}
use Rattle.tso_ops.proofs.TableFacts.{source_load}
use Rattle.tso_cert.specs.declared.rules.BaseRule.{BaseRule}
use Rattle.tso_cert.specs.declared.rules.BaseRule.TheVariants.{Init, LoadOp, StoreStore, Stbar, Membar, Read, Own}
use Rattle.tso_cert.specs.declared.rules.InferredRule.{InferredRule}
use Rattle.tso_cert.specs.declared.rules.InferredRule.TheVariants.{LoadPast, StorePast, SwapBefore, SwapAfter}
use Rattle.tso_model.specs.Axioms.{IsUpTo, IsBefore, IsVisible, ReadsGreatest, IsMemoryOrder, MeetsAtomicity}
use Rattle.tso_model.specs.RuleAxioms.{BaseAxiom, InferredAxiom}
use Rattle.tso_model.specs.Rules.{BasePair, InferredBy, IsOwnBy}
use Rattle.tso_model.proofs.EdgesForward.{base_forwards, inferred_forwards}
use Rattle.tso_model.proofs.Places.{nothing_before_zero, before_from_up_to, up_to_from_before, before_of_same}
use Rattle.trace_explanation.specs.Claims.{BaseSays, InferredSays, IsAtomic, ReadsLast, SeesStoreButReadFirstValue, OwnToInitSays, LoadPastToInitSays}

-- a store is of its address
source_address : (t : TraceValue) (l s : ℕ) → IsStore t s → HasSource t l s → SameAddress t s l
source_address t l zero store source = let above = event_above_zero t zero (store_event t zero store) in absurd (omega arith)
source_address t l (suc k) store source = source.2

module _ (t : TraceValue) (own : HasOwnValues t) (order : List ℕ) (memory : IsMemoryOrder t order) where
  -- a number that stands no later than another, where that is an event, stands before it
  before : (u v : ℕ) → IsEvent t v → u ≢ v → IsUpTo order u v → IsBefore order u v
  before u v event other up_to =
      let once = memory.once v event in
      before_from_up_to order u v (omega arith) (event_above_zero t v event) other up_to

  -- a store and a load aren't one event
  apart : (s l : ℕ) → IsStore t s → IsLoad t l → s ≢ l
  apart s l store load same = load_is_no_store t l load (subst (IsStore t) same store)

  -- a load reads the last of the stores that it sees
  reads_last : (l s : ℕ) → ReadsGreatest t order l → HasSource t l s → ReadsLast t order l s
  reads_last l s value source = (
    source,
    λ other visible different.
        ⊎_elim
        (λ up_to. inferred_forwards t own order memory LoadPast l other s other l value (visible.0, visible.1, source, different, refl, refl)
        (before other l (load_event t l (source_load t l s source)) (apart other l visible.0 (source_load t l s source)) up_to))
        (λ earlier. let by : IsOwnBy t l other s = (visible.0, visible.1, earlier, source, different) in base_forwards t own order memory Own other s l value (l, by) (λ same. by))
        visible.2,
  )

  -- a store that stands before a load of its address is one that the load sees
  visible : (s l : ℕ) → IsStore t s → SameAddress t s l → IsBefore order s l → IsVisible t order s l
  visible s l store address first = (store, address, inl (up_to_from_before order s l (event_above_zero t s (store_event t s store)) first))

  -- nothing comes between a swap's load and its store
  atomic : MeetsAtomicity t order → (l : ℕ) → IsSwapLoad t l → IsAtomic t order l
  atomic atomicity l swap = (
    swap,
    λ other store different.
        ⊎_elim
        (λ up_to. inl (before other l (swap.0, swap.1) (apart other l store (swap.0, swap.1, swap.2)) up_to))
        (λ up_to. inr (before (suc l) other (store_event t other store) (λ same. different (sym same)) up_to))
        (atomicity l other swap store different),
  )

  -- what the sentence of a base rule says
  pub base_says : (rule : BaseRule) (u v l : ℕ) → BaseAxiom t order rule v l → BasePair t rule u v → (rule ≡ Own → IsOwnBy t l u v) → BaseSays t order rule u v l
  base_says Init u v l none pair own_by = (pair.0, pair.1, λ n event. base_forwards t own order memory Init u n l none (pair.0, event) (λ same. cc))
  base_says LoadOp u v l load_op pair own_by = (pair.0, pair.1, λ n earlier. base_forwards t own order memory LoadOp u n l load_op (pair.0, earlier) (λ same. cc))
  base_says StoreStore u v l store_store pair own_by = (
    pair.0,
    pair.1,
    pair.2,
    pair.3,
    λ n store earlier kept. base_forwards t own order memory StoreStore u n l store_store (pair.0, store, earlier, kept) (λ same. cc),
  )
  base_says Stbar u v l stbar pair own_by = (pair.0, pair.1, pair.2, pair.3, base_forwards t own order memory Stbar u v l stbar pair own_by)
  base_says Membar u v l membar pair own_by = (pair.0, pair.1, pair.2, pair.3, base_forwards t own order memory Membar u v l membar pair own_by)
  base_says Read u v l value pair own_by =
      let first = base_forwards t own order memory Read u v l value pair own_by in
      (pair.1, visible u v pair.0 (source_address t v u pair.0 pair.1) first, pair.2, first)
  base_says Own u v l value pair own_by =
      let by = own_by refl in
      (by.2, (by.0, by.1, inr by.2), reads_last l v value by.3, by.4, base_forwards t own order memory Own u v l value pair own_by)

  -- what the sentence of an inferred rule says
  pub inferred_says : (rule : InferredRule) (l u v x y : ℕ) → InferredAxiom t order rule l → InferredBy t rule l u v x y → IsBefore order x y → InferredSays t order rule l u v x y
  inferred_says LoadPast l u v x y value by path =
      let first = before_of_same order x y u l by.4 by.5 path in
      (by.4, by.5, first, visible u l by.0 by.1 first, reads_last l v value by.2, by.3, inferred_forwards t own order memory LoadPast l u v x y value by path)
  inferred_says StorePast l u v x y value by path =
      let past = before_of_same order x y x v refl by.5 path in
      let last = reads_last l x value by.3 in (
        by.0,
        by.5,
        by.3,
        past,
        by.1,
        by.2,
        λ first. (
          visible v l by.1 by.2 first,
          inr (λ s source.
              let same : x ≡ s = source_unique t own l x s by.3 source in
              subst (IsBefore order v) same (last.1 v (visible v l by.1 by.2 first) by.4)),
        ),
        subst (λ n. IsBefore order n v) by.0 (inferred_forwards t own order memory StorePast l u v x y value by path),
      )
  inferred_says SwapBefore l u v x y atomicity by path =
      (by.1, by.4, by.5, before_of_same order x y u (suc l) by.4 by.5 path, atomic atomicity l by.0, subst (IsBefore order u) by.1 (inferred_forwards t own order memory SwapBefore l u v x y atomicity by path))
  inferred_says SwapAfter l u v x y atomicity by path =
      (by.1, by.4, by.5, before_of_same order x y l v by.4 by.5 path, atomic atomicity l by.0, subst (λ n. IsBefore order n v) by.1 (inferred_forwards t own order memory SwapAfter l u v x y atomicity by path))

  -- a load that read the first value didn't read what a store to its address wrote
  read_other : (l u : ℕ) → IsStore t u → SameAddress t u l → HasSource t l 0 → SameValue t u l → ⊥
  read_other l u store address source value =
      let same : 0 ≡ u = source_unique t own l 0 u source (store_source t l u (source_load t l 0 source) store address value) in
      let above = event_above_zero t u (store_event t u store) in omega arith

  -- a load that sees a store can't read the first value, since that store would stand before it
  sees_store : (l u : ℕ) → IsVisible t order u l → HasSource t l 0 → (ReadsGreatest t order l → IsBefore order u 0) → SeesStoreButReadFirstValue t order l u
  sees_store l u seen source forwards =
      (seen, read_other l u seen.0 seen.1 source, source.1, λ value. nothing_before_zero order u (forwards value))

  -- what the sentence of an Own edge to init says
  pub own_to_init_says : (l u : ℕ) → IsOwnBy t l u 0 → OwnToInitSays t order l u
  own_to_init_says l u by =
      (by.2, sees_store l u (by.0, by.1, inr by.2) by.3 (λ value. base_forwards t own order memory Own u 0 l value (l, by) (λ same. by)))

  -- what the sentence of a LoadPast edge to init says
  pub load_past_to_init_says : (l u x y : ℕ) → InferredBy t LoadPast l u 0 x y → IsBefore order x y → LoadPastToInitSays t order l u x y
  load_past_to_init_says l u x y by path =
      let first = before_of_same order x y u l by.4 by.5 path in
      (by.4, by.5, first, sees_store l u (visible u l by.0 by.1 first) by.2 (λ value. inferred_forwards t own order memory LoadPast l u 0 x y value by path))

-- Where the paths of the pairs in force order all stores of each address, and the rules don't lead out of them, they can be completed to a closed
-- order without any case: if no path leads from a swap's store to another store, the pair of the other store and the swap's load can be put in force.
use Rattle.std.proofs.Common.{◌≡◌, ◌≢◌, ◌∙◌, ◌⊎◌, inl, inr, refl, sym, subst, ℕ, zero, suc, ◌<◌, arith}
use Rattle.std.proofs.lemmas.Bool.{cases_eq}
use Rattle.order_paths.specs.Paths.{Reaches}
use Rattle.order_paths.proofs.Decisions.{Decision, Decision-not, Decision-three}
use Rattle.order_paths.proofs.Reach.{Reaches-decided, Reaches-edge, Reaches-into, Reaches-join, Reaches-mono}
use Rattle.tso_ops.specs.Values.{TraceValue}
use Rattle.tso_ops.specs.Events.{event_total, IsStore, IsSwapLoad, SameAddress, HasSource}
use Rattle.tso_ops.proofs.NumberFacts.{event_unique, store_event, load_is_no_store, IsStore-within}
use Rattle.tso_ops.proofs.SwapFacts.{IsSwapLoad-store, IsSwapLoad-within}
use Rattle.tso_cert.specs.declared.rules.BaseRule.{BaseRule}
use Rattle.tso_cert.specs.declared.rules.BaseRule.TheVariants.{Init, LoadOp}
use Rattle.tso_cert.specs.declared.rules.InferredRule.{InferredRule}
use Rattle.tso_cert.specs.declared.rules.InferredRule.TheVariants.{LoadPast, StorePast, SwapBefore, SwapAfter}
use Rattle.tso_model.specs.Rules.{BasePair, InferredBy}
use Rattle.tso_model.proofs.Decided.{IsStore-decided, IsSwapLoad-decided}
use Rattle.completeness.specs.ClosedOrders.{IsClosedOrder}
use Rattle.completeness.proofs.SwapProcessors.{swap_earlier}
use Rattle.refutation_check.specs.Refutations.{WithPair}
use Rattle.completeness.proofs.BoundedSearch.{all_pairs_or}
use Rattle.completeness.proofs.MorePairs.{AreDecidedBelow, answer_by_more}

-- a closed order, but that it need not relate a swap's store to stores of other addresses
pub record IsClosedOnAddresses (t : TraceValue) (Before : ℕ → ℕ → Type 0) : Type 0 where
  pub transitive : (u v w : ℕ) → Before u v → Before v w → Before u w
  pub irreflexive : (u : ℕ) → Before u u → ⊥
  pub base : (rule : BaseRule) (u v : ℕ) → BasePair t rule u v → Before u v
  pub inferred : (rule : InferredRule) (l u v x y : ℕ) → InferredBy t rule l u v x y → Before x y → Before u v
  pub stores : (u v : ℕ) → IsStore t u → IsStore t v → SameAddress t u v → u ≢ v → Before u v ⊎ Before v u

-- two events of the address of a third are of one address
one_address : (t : TraceValue) (l m n : ℕ) → SameAddress t m l → SameAddress t n l → SameAddress t m n
one_address t l m n one two =
    let same = event_unique t l one.1 two.1 one.3 two.3 in
    let first : one.0.a ≡ one.1.a = one.4 in
    let second : two.0.a ≡ two.1.a = two.4 in
    (one.0, two.0, one.2, two.2, cc)

-- no load's number is a store's
apart : (t : TraceValue) (l s : ℕ) → IsSwapLoad t l → IsStore t s → l ≢ s
apart t l s swap store same = load_is_no_store t l (swap.0, swap.1, swap.2) (subst (IsStore t) (sym same) store)

module _ (t : TraceValue) (Before : ℕ → ℕ → Type 0) (closed : IsClosedOnAddresses t Before) where
  -- u is v or comes before it
  abbrev UpTo : ℕ → ℕ → Type 0
  UpTo u v = (u ≡ v) ⊎ Before u v

  up_then : (u v w : ℕ) → UpTo u v → Before v w → Before u w
  up_then u v w (inl same) before = subst (λ n. Before n w) (sym same) before
  up_then u v w (inr first) before = closed.transitive u v w first before

  then_up : (u v w : ℕ) → Before u v → UpTo v w → Before u w
  then_up u v w before (inl same) = subst (Before u) same before
  then_up u v w before (inr second) = closed.transitive u v w before second

  up_up : (u v w : ℕ) → UpTo u v → UpTo v w → UpTo u w
  up_up u v w (inl same) second = subst (λ n. UpTo n w) (sym same) second
  up_up u v w (inr first) second = inr (then_up u v w first second)

  -- a store to a load's address and the load's source, if they are two, are related
  source_related : (l u v : ℕ) → IsStore t u → SameAddress t u l → HasSource t l v → u ≢ v → Before u v ⊎ Before v u
  source_related l u zero store address source different = inr (closed.base Init 0 u (refl, store_event t u store))
  source_related l u (suc k) store address source different = closed.stores u (suc k) store source.1 (one_address t l u (suc k) address source.2) different

  module _ (l s : ℕ) (swap : IsSwapLoad t l) (store : IsStore t s) (other : s ≢ suc l) (none : Before (suc l) s → ⊥) where
    -- what comes first where the pair of s and l is put in force
    abbrev New : ℕ → ℕ → Type 0
    New u v = Before u v ⊎ (UpTo u s × UpTo l v)

    not_past : UpTo l s → ⊥
    not_past (inl same) = apart t l s swap store same
    not_past (inr before) = none (closed.inferred SwapAfter l (suc l) s l s (swap, refl, store, other, refl, refl) before)

    no_way_back : (u v : ℕ) → UpTo u s → UpTo l v → Before v u → ⊥
    no_way_back u v to from back = not_past (up_up l v s from (inr (then_up v u s back to)))

    new_transitive : (u v w : ℕ) → New u v → New v w → New u w
    new_transitive u v w (inl first) (inl second) = inl (closed.transitive u v w first second)
    new_transitive u v w (inl first) (inr (to, from)) = inr (inr (then_up u v s first to), from)
    new_transitive u v w (inr (to, from)) (inl second) = inr (to, inr (up_then l v w from second))
    new_transitive u v w (inr (to, from)) (inr (to_too, from_too)) = inr (to, from_too)

    new_irreflexive : (u : ℕ) → New u u → ⊥
    new_irreflexive u (inl before) = closed.irreflexive u before
    new_irreflexive u (inr (to, from)) = not_past (up_up l u s from to)

    -- a swap's load before which the other swap's load comes
    before_load : (m : ℕ) → IsSwapLoad t m → l ≢ m → UpTo l (suc m) → Before l m
    before_load m swap_m different (inl same) = absurd (apart t l (suc m) swap (IsSwapLoad-store t m swap_m) same)
    before_load m swap_m different (inr before) =
        let store_l = IsSwapLoad-store t l swap in
        let store_m = IsSwapLoad-store t m swap_m in
        let after : Before (suc l) (suc m) = closed.inferred SwapAfter l (suc l) (suc m) l (suc m) (swap, refl, store_m, (λ same. different (omega (arith, same))), refl, refl) before in
        let first : Before (suc l) m = closed.inferred SwapBefore m (suc l) m (suc l) (suc m) (swap_m, refl, store_l, (λ same. different (omega (arith, same))), refl, refl) after in
        closed.transitive l (suc l) m (closed.base LoadOp l (suc l) ((swap.0, swap.1, swap.2), swap_earlier t l swap)) first

    -- a swap's store where its load comes before s
    after_load : (m : ℕ) → IsSwapLoad t m → UpTo m s → UpTo (suc m) s
    after_load m swap_m (inl same) = absurd (apart t m s swap_m store same)
    after_load m swap_m (inr before) = elim (cases_eq s (suc m)) [
      | inl here ↦ inl (sym here)
      | inr apart_m ↦ inr (closed.inferred SwapAfter m (suc m) s m s (swap_m, refl, store, apart_m, refl, refl) before)
    ]

    new_inferred : (rule : InferredRule) (m u v x y : ℕ) → InferredBy t rule m u v x y → UpTo x s → UpTo l y → New u v
    new_inferred LoadPast m u v x y by to from = elim (source_related m u v by.0 by.1 by.2 by.3) [
      | inl before ↦ inl before
      | inr back ↦ (
          let seen : Before m u = closed.inferred StorePast m m u v u (refl, by.0, by.1, by.2, by.3, refl) back in
          absurd (no_way_back u m (subst (λ n. UpTo n s) by.4 to) (subst (UpTo l) by.5 from) seen)
          )
    ]
    new_inferred StorePast m u v x y by to from = elim (source_related m v x by.1 by.2 by.3 by.4) [
      | inl back ↦ absurd (no_way_back x v to (subst (UpTo l) by.5 from) back)
      | inr before ↦ inl (closed.inferred StorePast m u v x v (by.0, by.1, by.2, by.3, by.4, refl) before)
    ]
    new_inferred SwapBefore m u v x y by to from = elim (cases_eq l m) [
      | inl same ↦ inr (subst (λ n. UpTo n s) by.4 to, inl (same ∙ sym by.1))
      | inr different ↦ inr (
        subst (λ n. UpTo n s) by.4 to,
        inr (subst (Before l) (sym by.1) (before_load m by.0 different (subst (UpTo l) by.5 from))),
      )
    ]
    new_inferred SwapAfter m u v x y by to from =
        inr (subst (λ n. UpTo n s) (sym by.1) (after_load m by.0 (subst (λ n. UpTo n s) by.4 to)), subst (UpTo l) by.5 from)

-- with the pair of s and l in force the paths are closed too
closed_with : (t : TraceValue) (Pair : ℕ → ℕ → Type 0) (l s : ℕ) → IsSwapLoad t l → IsStore t s → s ≢ suc l → (Reaches Pair (suc l) s → ⊥) →
    IsClosedOnAddresses t (Reaches Pair) → IsClosedOnAddresses t (Reaches (WithPair Pair s l))
closed_with t Pair l s swap store other none closed = record {
  transitive = Reaches-join (WithPair Pair s l);
  irreflexive = λ u path. new_irreflexive t (Reaches Pair) closed l s swap store other none u (to_new u u path);
  base = λ rule u v pair. kept u v (closed.base rule u v pair);
  inferred = λ rule m u v x y by path. elim (to_new x y path) [
    | inl before ↦ kept u v (closed.inferred rule m u v x y by before)
    | inr (to, from) ↦ from_new u v (new_inferred t (Reaches Pair) closed l s swap store other none rule m u v x y by to from)
  ];
  stores = λ u v store_u store_v address different. elim (closed.stores u v store_u store_v address different) [
    | inl before ↦ inl (kept u v before)
    | inr after ↦ inr (kept v u after)
  ];
}
  where
    kept : (u v : ℕ) → Reaches Pair u v → Reaches (WithPair Pair s l) u v
    kept u v path = Reaches-mono Pair (WithPair Pair s l) (λ x y pair. inl pair) u v path

    to_new : (u v : ℕ) → Reaches (WithPair Pair s l) u v → New t (Reaches Pair) closed l s swap store other none u v
    to_new u v path = Reaches-into (WithPair Pair s l) (New t (Reaches Pair) closed l s swap store other none) (new_transitive t (Reaches Pair) closed l s swap store other none)
        (λ x y pair. elim pair [
          | inl before ↦ inl (Reaches-edge Pair x y before)
          | inr here ↦ inr (inl (sym here.0), inl here.1)
        ]) u v path

    to_first : (u : ℕ) → (u ≡ s) ⊎ Reaches Pair u s → Reaches (WithPair Pair s l) u l
    to_first u (inl same) = subst (λ n. Reaches (WithPair Pair s l) n l) (sym same) (Reaches-edge (WithPair Pair s l) s l (inr (refl, refl)))
    to_first u (inr path) = Reaches-join (WithPair Pair s l) u s l (kept u s path) (Reaches-edge (WithPair Pair s l) s l (inr (refl, refl)))

    from_new : (u v : ℕ) → New t (Reaches Pair) closed l s swap store other none u v → Reaches (WithPair Pair s l) u v
    from_new u v (inl path) = kept u v path
    from_new u v (inr (to, inl same)) = subst (Reaches (WithPair Pair s l) u) same (to_first u to)
    from_new u v (inr (to, inr path)) = Reaches-join (WithPair Pair s l) u l v (to_first u to) (kept l v path)

-- such paths are completed to a closed order, pair by pair
module _ (t : TraceValue) (Goal : Type 0) (goal : (Pair : ℕ → ℕ → Type 0) → AreDecidedBelow (suc (event_total t)) Pair → IsClosedOrder t (Reaches Pair) → Goal) where
  module _ (Pair : ℕ → ℕ → Type 0) (known : AreDecidedBelow (suc (event_total t)) Pair)
      (more : (u v : ℕ) → u < suc (event_total t) → v < suc (event_total t) → (Reaches Pair u v → ⊥) → IsClosedOnAddresses t (Reaches (WithPair Pair u v)) → Goal)
      (closed : IsClosedOnAddresses t (Reaches Pair)) where
    paths : (u v : ℕ) → Decision (Reaches Pair u v)
    paths = Reaches-decided Pair (suc (event_total t)) known.decide known.below

    swaps_or : ((l s : ℕ) → IsSwapLoad t l × IsStore t s × (s ≢ suc l) → Reaches Pair s (suc l) ⊎ Reaches Pair (suc l) s) ⊎ Goal
    swaps_or = all_pairs_or (λ l s. IsSwapLoad t l × IsStore t s × (s ≢ suc l)) (λ l s. Reaches Pair s (suc l) ⊎ Reaches Pair (suc l) s) Goal
        (λ l s. Decision-three (IsSwapLoad-decided t l) (IsStore-decided t s) (Decision-not (cases_eq s (suc l)))) each (suc (event_total t))
        (λ l s has. ((IsSwapLoad-within t l has.0).0, IsStore-within t s has.1))
      where
        each : (l s : ℕ) → IsSwapLoad t l × IsStore t s × (s ≢ suc l) → (Reaches Pair s (suc l) ⊎ Reaches Pair (suc l) s) ⊎ Goal
        each l s (swap, store, other) = elim (paths s (suc l)) [
          | inl path ↦ inl (inl path)
          | inr none ↦ elim (paths (suc l) s) [
            | inl path ↦ inl (inr path)
            | inr none_back ↦ inr (more s l (IsStore-within t s store) (IsSwapLoad-within t l swap).0
                (λ path. none (closed.transitive s l (suc l) path (closed.base LoadOp l (suc l) ((swap.0, swap.1, swap.2), swap_earlier t l swap))))
                (closed_with t Pair l s swap store other none_back closed))
          ]
        ]

    goal_by_more : Goal
    goal_by_more = elim swaps_or [
      | inr done ↦ done
      | inl swaps ↦ goal Pair known (record {
        transitive = closed.transitive;
        irreflexive = closed.irreflexive;
        base = closed.base;
        inferred = closed.inferred;
        stores = closed.stores;
        swaps = λ l s swap store other. swaps l s (swap, store, other);
      })
    ]

  pub goal_of_closed_on_addresses : (Pair : ℕ → ℕ → Type 0) → AreDecidedBelow (suc (event_total t)) Pair → IsClosedOnAddresses t (Reaches Pair) → Goal
  goal_of_closed_on_addresses = answer_by_more (suc (event_total t)) (λ Pair. IsClosedOnAddresses t (Reaches Pair) → Goal) goal_by_more

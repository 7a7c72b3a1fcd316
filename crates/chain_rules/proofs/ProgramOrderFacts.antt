-- What program order puts after a number, along a chain.
use Rattle.std.proofs.Common.{◌≡◌, ◌⊎◌, ◌↔◌, inl, inr, ℕ, zero, suc, ◌<◌, ◌≤◌, Some, sym, ap, ◌∙◌, arith}
use Rattle.tso_ops.specs.declared.events.Event.{Event}
use Rattle.tso_ops.specs.Values.{TraceValue}
use Rattle.tso_ops.specs.Events.{event_at, IsEvent, IsStore, IsEventOf, HasSource, HasFewerStbarsBefore, KeepsStores, SameAddress, Earlier}
use Rattle.tso_ops.proofs.NumberFacts.{IsEvent-within, event_unique, event_above_zero, load_is_no_store, store_event}
use Rattle.tso_ops.proofs.ProcessorFacts.{bars_ascend, stbars_ascend}
use Rattle.tso_ops.proofs.TableFacts.{source_load}
use Rattle.tso_cert.specs.declared.rules.BaseRule.{BaseRule}
use Rattle.tso_cert.specs.declared.rules.BaseRule.TheVariants.{Init, LoadOp, StoreStore, Stbar, Membar, Read, Own}
use Rattle.tso_model.specs.Rules.{BasePair}
use Rattle.tso_model.specs.Ranks.{RankSet}
use Rattle.tso_rules.specs.Rows.{IsLater}
use Rattle.tso_rules.specs.Internal.MarkedRows.{IsOrdered}
use Rattle.tso_rules.proofs.BaseFacts.{later_is, later_earlier}
use Rattle.chain_reach.specs.declared.types.Groups.{Groups}
use Rattle.chain_reach.specs.Groups.{node_count, IsIn}
use Rattle.chain_rules.specs.Chains.{AreTogether, AreChainsOf}
use Rattle.chain_rules.specs.Internal.BaseJoins.{IsAfter}

pub after_greater : (t : TraceValue) (u v : ℕ) → IsAfter t u v → u < v
after_greater t u v (inl init) = let above = event_above_zero t v init.1 in let zero_is = init.0 in omega (arith, above, zero_is)
after_greater t u v (inr later) = (later_earlier t u v later).5

-- an event is a number of the chains
pub event_node : (t : TraceValue) (g : Groups) → AreChainsOf t g → (n : ℕ) → IsEvent t n → n < node_count g
event_node t g chains n event = let low = IsEvent-within t n event in let nodes = chains.nodes in omega (arith, low, nodes)

-- what comes after is a number of the chains
pub after_within : (t : TraceValue) (g : Groups) → AreChainsOf t g → (u v : ℕ) → IsAfter t u v → v < node_count g
after_within t g chains u v after =
    event_node t g chains v (elim after [ inl init ↦ init.1 | inr later ↦ (let e = later_earlier t u v later in (e.1, e.3)) ])

-- program order puts nothing after init
pub after_later : (t : TraceValue) (u v : ℕ) → (u ≡ 0 → ⊥) → IsAfter t u v → IsLater t u v
after_later t u v not (inl init) = absurd (not init.0)
after_later t u v not (inr later) = later

-- an address is the same as that of both
same_of_both : (t : TraceValue) (u v l : ℕ) → SameAddress t u l → SameAddress t v l → SameAddress t u v
same_of_both t u v l (d, e, at_u, at_l, one) (d', e', at_v, at_l', other) =
    (d, d', at_u, at_v, one ∙ ap (λ (x : Event). x.a) (event_unique t l e e' at_l at_l') ∙ sym other)

-- a load has its source's address
pub source_address : (t : TraceValue) (l s : ℕ) → HasSource t l s → IsStore t s → SameAddress t s l
source_address t l zero has store = absurd (let above = event_above_zero t 0 (store_event t 0 store) in omega (arith, above))
source_address t l (suc k) has store = has.2

-- a base edge from a store to a store comes of their program order, or they are to one address
store_edge : (t : TraceValue) (v w : ℕ) → IsStore t v → IsStore t w → RankSet t 0 v w → KeepsStores t v w ⊎ HasFewerStbarsBefore t v w
store_edge t v w first second edge = by edge.0 edge.1
  where
    by : (rule : BaseRule) → BasePair t rule v w → KeepsStores t v w ⊎ HasFewerStbarsBefore t v w
    by Init pair = absurd (let above = event_above_zero t v (store_event t v first) in let zero_is = pair.0 in omega (arith, above, zero_is))
    by LoadOp pair = absurd (load_is_no_store t v pair.0 first)
    by StoreStore pair = inl pair.3
    by Stbar pair = inr pair.3
    by Membar pair = absurd (load_is_no_store t w pair.1 second)
    by Read pair = absurd (load_is_no_store t w (source_load t w v pair.1) second)
    by Own pair = let own = pair.1 in inl (inr (same_of_both t v w pair.0 own.1 (source_address t pair.0 w own.3 second)))

-- Two events of one chain, the first of which is program-later than an event.
record AreLaterTogether (t : TraceValue) (event : Event) (u v w : ℕ) : Type 0 where
  pub at : event_at t u ≡ Some event
  pub first : IsEventOf t event.proc v
  pub second : IsEventOf t event.proc w
  pub first_later : u < v
  pub second_later : v < w
  pub edge : RankSet t 0 v w
  pub kinds : IsStore t v ↔ IsStore t w

-- the STBARs and barriers before the three
stbars_between : (t : TraceValue) (event : Event) (u v w : ℕ) (are : AreLaterTogether t event u v w) → (event.stbars ≤ are.first.0.stbars) × (are.first.0.stbars ≤ are.second.0.stbars)
stbars_between t event u v w are = (
  stbars_ascend t u v event are.first.0 are.at are.first.1 (sym are.first.2) are.first_later,
  stbars_ascend t v w are.first.0 are.second.0 are.first.1 are.second.1 (are.first.2 ∙ sym are.second.2) are.second_later,
)

bars_between : (t : TraceValue) (event : Event) (u v w : ℕ) (are : AreLaterTogether t event u v w) → (event.bars ≤ are.first.0.bars) × (are.first.0.bars ≤ are.second.0.bars)
bars_between t event u v w are = (
  bars_ascend t u v event are.first.0 are.at are.first.1 (sym are.first.2) are.first_later,
  bars_ascend t v w are.first.0 are.second.0 are.first.1 are.second.1 (are.first.2 ∙ sym are.second.2) are.second_later,
)

-- what program order puts the first of them after, it puts the second after
ordered_along : (t : TraceValue) (event : Event) (u v w : ℕ) → AreLaterTogether t event u v w → IsOrdered t event v → IsOrdered t event w
ordered_along t event u v w are (inl load) = inl load
ordered_along t event u v w are (inr (inl (store, inl tso))) = inr (inl (are.kinds.0 store, inl tso))
ordered_along t event u v w are (inr (inl (store, inr to))) = elim (store_edge t v w store (are.kinds.0 store) are.edge) [
  | inl keeps ↦ elim keeps [
    | inl tso ↦ inr (inl (are.kinds.0 store, inl tso))
    | inr same ↦ (let one = event_unique t v to.0 same.0 to.1 same.2 in
        let second = are.kinds.0 store in
        let other = event_unique t w second.0 same.1 second.1 same.3 in
        inr (inl (second, inr (second.0, second.1, second.2, ap (λ (x : Event). x.a) other ∙ sym same.4 ∙ ap (λ (x : Event). x.a) (sym one) ∙ to.3))))
  ]
  | inr fewer ↦ inr (inr (inl (
    are.kinds.0 store,
    λ has.
        let low = (stbars_between t event u v w are).0 in
        let first : are.first.0.stbars ≡ fewer.0.stbars = ap (λ (x : Event). x.stbars) (event_unique t v are.first.0 fewer.0 are.first.1 fewer.2) in
        let second : has.0.stbars ≡ fewer.1.stbars = ap (λ (x : Event). x.stbars) (event_unique t w has.0 fewer.1 has.1 fewer.3) in
        let less : fewer.0.stbars < fewer.1.stbars = fewer.4 in
        let same : has.0.stbars ≡ event.stbars = has.2 in
        omega (arith, low),
  )))
]
ordered_along t event u v w are (inr (inr (inl (store, other)))) = inr (inr (inl (
  are.kinds.0 store,
  λ has.
      let low = (stbars_between t event u v w are).0 in
      let high = (stbars_between t event u v w are).1 in
      let second : has.0.stbars ≡ are.second.0.stbars = ap (λ (x : Event). x.stbars) (event_unique t w has.0 are.second.0 has.1 are.second.1) in
      let same : has.0.stbars ≡ event.stbars = has.2 in
      other (are.first.0, are.first.1, omega (arith, low, high)),
)))
ordered_along t event u v w are (inr (inr (inr (load, other)))) = inr (inr (inr (
  λ store. load (are.kinds.1 store),
  λ has.
      let low = (bars_between t event u v w are).0 in
      let high = (bars_between t event u v w are).1 in
      let second : has.0.bars ≡ are.second.0.bars = ap (λ (x : Event). x.bars) (event_unique t w has.0 are.second.0 has.1 are.second.1) in
      let same : has.0.bars ≡ event.bars = has.2 in
      other (are.first.0, are.first.1, omega (arith, low, high)),
)))

pub together_back : (g : Groups) (v w : ℕ) → AreTogether g v w → AreTogether g w v
together_back g v w are = (are.1, are.0, sym are.2)

pub together_in : (g : Groups) (d v w : ℕ) → IsIn g d v → IsIn g d w → AreTogether g v w
together_in g d v w one other = (one.0, other.0, one.1 ∙ sym other.1)

-- what program order puts after an event, and so each that comes later in its chain
pub later_along : (t : TraceValue) (g : Groups) → AreChainsOf t g → (u v w : ℕ) → AreTogether g v w → v < w → IsLater t u v → IsLater t u w
later_along t g chains u v w together less later =
    let earlier = later_earlier t u v later in
    let event = earlier.0 in
    let was = (later_is t u v event earlier.2).1 later in
    let of = chains.processors event.proc v w together was.0.0 in
    let before : u < v = was.0.1 in
    (later_is t u w event earlier.2).0 (
      (of, omega (arith, before, less)),
      ordered_along t event u v w (record {
        at = earlier.2;
        first = was.0.0;
        second = of;
        first_later = before;
        second_later = less;
        edge = chains.ordered v w (less, together.1, together.2);
        kinds = (chains.kinds v w together, chains.kinds w v (together_back g v w together));
      }) was.1,
    )

-- a greater number of the chain of a program-later event is program-later
pub earlier_along : (t : TraceValue) (g : Groups) → AreChainsOf t g → (u v w : ℕ) → AreTogether g v w → u < w → Earlier t u v → Earlier t u w
earlier_along t g chains u v w together less e =
    let to = chains.processors e.0.proc v w together (e.1, e.3, sym e.4) in
    (e.0, to.0, e.2, to.1, sym to.2, less)
